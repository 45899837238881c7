use Rattle.std.proofs.Common.{◌∙◌, sym, ap, arith, ◌+◌, add-one, refl}
use Rattle.brl_lines.specs.Escapes.{escape}
use Rattle.brl_lines.proofs.EscapeLemmas.{escape-numbered}
use Rattle.brl_lines.proofs.operand.escaped.Goals as goal

pub returns : goal.returns
returns c =
    let mark = c.in_ok-mark.ensures in
    let code = c.in_ok-code.ensures in
    let character = c.in_ok-from_u32.ensures.value in
    let escape_is = ap escape mark.0 ∙ escape-numbered c.in_ok-mark.mark c.in_ok-count.count c.in_ok-code.code _ (sym c.named.ensures ∙ c.in_default.is) (sym c.in_ok-count.ensures) code.0 character.0 in
    ((c.in_ok-count.count + 1, rw character.1 escape_is, code.1 ∙ rw (mark.0, add-one) refl), omega (arith, mark.1, code.2))
