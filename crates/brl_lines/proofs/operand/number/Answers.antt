use Rattle.std.proofs.Common.{◌≡◌, ◌∙◌, sym, ap, arith, ◌<◌, drop, lit<, rules}
use Rattle.std.specs.Str.{chars}
use Rattle.brl_lines.proofs.EscapeLemmas.{digits_fit, digits_more, one_off, hexadecimal-whole, hexadecimal-short, hexadecimal-bad, hexadecimal-digit}
use Rattle.brl_lines.proofs.operand.number.Goals as goal

pub returns-in_err-mark : goal.returns-in_err-mark
returns-in_err-mark c =
    rw c.from_residual.ensures (sym c.loop-read.invariant.same ∙ hexadecimal-short c.args.count c.loop-read.read c.loop-read.value _ c.loop-read-test.true c.in_err-mark.ensures.1)

pub returns-in_err-digit : goal.returns-in_err-digit
returns-in_err-digit c =
    rw c.from_residual-in_err-digit.ensures
    (sym c.loop-read.invariant.same ∙ hexadecimal-bad c.args.count c.loop-read.read c.loop-read.value _ _ _ c.loop-read-test.true c.in_ok-mark.ensures.0 c.in_err-digit.ensures.value)

pub overflow_mul-value : goal.overflow_mul-value
overflow_mul-value c =
    let fits = digits_fit c.loop-read.read c.loop-read.value 0 (omega arith) c.loop-read.invariant.small (lit< tt) in
    omega arith

pub overflow_add-value : goal.overflow_add-value
overflow_add-value c =
    let digit = c.in_ok-digit.ensures.value in
    let small : c.in_ok-digit.digit < 16 = omega (arith, digit.0, digit.1) in
    let fits = digits_fit c.loop-read.read c.loop-read.value c.in_ok-digit.digit (omega arith) c.loop-read.invariant.small small in
    omega arith

pub loop-read-preserved : goal.loop-read-preserved
loop-read-preserved c =
    let mark = c.in_ok-mark.ensures in
    let digit = c.in_ok-digit.ensures.value in
    let small : c.in_ok-digit.digit < 16 = omega (arith, digit.0, digit.1) in
    record {
      utf8 = search rules;
      small = digits_more c.loop-read.read c.loop-read.value c.in_ok-digit.digit c.loop-read.invariant.small small;
      shorter = omega (arith, mark.1);
      left = one_off c.loop-read.read (chars c.args.text.now) _ _ _ c.loop-read.invariant.left mark.0;
      same = sym (hexadecimal-digit c.args.count c.loop-read.read c.loop-read.value _ c.in_ok-mark.mark c.in_ok-digit.digit _ c.loop-read-test.true mark.0 digit.0 digit.1) ∙ c.loop-read.invariant.same;
    }

pub returns : goal.returns
returns c =
    let end : c.loop-read.read ≡ c.args.count = omega arith in (
      sym c.loop-read.invariant.same ∙ hexadecimal-whole c.args.count c.loop-read.read c.loop-read.value _ (omega arith),
      c.loop-read.invariant.left ∙ ap (λ n. drop n (chars c.args.text.now)) end,
      c.loop-read.invariant.shorter,
    )
