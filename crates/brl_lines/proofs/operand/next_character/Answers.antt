use Rattle.std.proofs.Common.{arith}
use Rattle.brl_lines.proofs.EscapeLemmas.{spelled-escaped, spelled-itself}
use Rattle.brl_lines.proofs.operand.next_character.Goals as goal

pub returns-in_err-mark : goal.returns-in_err-mark
returns-in_err-mark c = let none = c.in_err-mark.ensures in absurd (omega (arith, none.0))

pub returns-then-mark-eq92 : goal.returns-then-mark-eq92
returns-then-mark-eq92 c = let mark = c.in_ok-mark.ensures in spelled-escaped _ _ c.in_ok-mark.mark _ _ c.escaped.result mark.0 c.if-mark-eq92.true mark.1 c.escaped.ensures

pub returns-else-mark-eq92 : goal.returns-else-mark-eq92
returns-else-mark-eq92 c = let mark = c.in_ok-mark.ensures in (spelled-itself _ _ c.in_ok-mark.mark mark.0 c.if-mark-eq92.false, mark.1)
