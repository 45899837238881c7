use Rattle.brl_closure.specs.Least.{IsLeastPairFound}
use Rattle.brl_closure.specs.Passed.{HasOfUnshared}
use Rattle.brl_closure.specs.Steps.{MissUnexcused}
use Rattle.brl_closure.proofs.UnsharedSplits.{Below}
use Rattle.brl_closure.proofs.check.missing.missing_of_unshared.Given as goal

abbrev pub invariant-loop-position : goal.invariant-loop-position
invariant-loop-position l = IsLeastPairFound (Below (HasOfUnshared (MissUnexcused l.excused l.pairs) l.edges l.shared) l.position) l.best
