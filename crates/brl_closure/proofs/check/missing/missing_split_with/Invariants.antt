use Rattle.brl_closure.proofs.LeastRule.{NoneAmong}
use Rattle.brl_closure.specs.Steps.{MissUnexcused}
use Rattle.brl_closure.proofs.check.missing.missing_split_with.Given as goal

abbrev pub invariant-loop-matching : goal.invariant-loop-matching
invariant-loop-matching l = NoneAmong (λ earlier. MissUnexcused l.excused l.pairs earlier l.later) l.edges.edges l.matching-items l.matching-index
