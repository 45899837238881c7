use Rattle.brl_closure.specs.Least.{IsLeastPairFound}
use Rattle.brl_closure.proofs.UnsharedSplits.{Below, HasOfMatch}
use Rattle.brl_closure.proofs.check.missing.missing_split_at_place.Given as goal

abbrev pub invariant-loop-matching : goal.invariant-loop-matching
invariant-loop-matching l = IsLeastPairFound (Below (HasOfMatch l.excused l.pairs l.edges.edges l.place l.matching-items) l.matching-index) l.best
