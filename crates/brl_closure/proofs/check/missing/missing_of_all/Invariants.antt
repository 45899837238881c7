use Rattle.brl_closure.specs.Least.{IsLeastPairFound}
use Rattle.brl_closure.proofs.LeastSplit.{HasBelow}
use Rattle.brl_closure.specs.Steps.{MissUnexcused}
use Rattle.brl_closure.proofs.check.missing.missing_of_all.Given as goal

abbrev pub invariant-loop-second : goal.invariant-loop-second
invariant-loop-second l = IsLeastPairFound (HasBelow (MissUnexcused l.excused l.pairs) l.edges.edges l.second) l.best
