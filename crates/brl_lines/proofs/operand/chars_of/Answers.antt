use Rattle.std.proofs.Common.{arith}
use Rattle.std.proofs.lemmas.Grind.{common_steps}
use Rattle.brl_lines.proofs.EscapeLemmas.{spelled-end}
use Rattle.brl_lines.proofs.operand.chars_of.Goals as goal

pub returns : goal.returns
returns c = spelled-end _ _ _ c.loop-rest.invariant.same (grind (arith, common_steps))
