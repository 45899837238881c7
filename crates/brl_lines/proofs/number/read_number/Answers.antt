use Rattle.std.proofs.Common.{◌<◌, length, arith}
use Rattle.std.proofs.lemmas.Bool.Decides.{nat_tests}
use Rattle.brl_lines.proofs.NumberLemmas.{at_end, past_greatest}
use Rattle.brl_lines.proofs.number.read_number.Goals as goal

pub returns-then-value-greatest-clause-number : goal.returns-then-value-greatest-clause-number
returns-then-value-greatest-clause-number c =
    past_greatest c.args.radix c.args.greatest c.loop-byte.value c.loop-byte.byte-index c.args.field.now c.requires.radix_from (omega arith) (omega arith) (omega (arith, c.digit_of-digit.ensures)) (omega (arith, c.digit_of-digit.ensures)) c.loop-byte.invariant.rest

pub returns-clause-number : goal.returns-clause-number
returns-clause-number c =
    let some : 0 < length c.args.field.now = (let e = c.is_empty.ensures in let f = c.if-is_empty.false in grind (arith, nat_tests)) in
    at_end c.args.radix c.args.greatest c.loop-byte.value c.loop-byte.byte-index c.args.field.now c.requires.radix_from some (omega arith) c.loop-byte.invariant.rest
