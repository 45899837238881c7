use Rattle.std.proofs.Common.{ℕ, ◌<◌}
use Rattle.brl_closure.specs.Refusals.{HasTwoEnds}
use Rattle.brl_closure.proofs.check.checker.check_ends.Given as goal

abbrev pub invariant-loop-number : goal.invariant-loop-number
invariant-loop-number g l = (k : ℕ) → k < l.number → HasTwoEnds (g.M.Machine.behaviour l.machine) l.body k → ⊥
