use Rattle.brl_closure.proofs.LeastRule.{NoneAmong}
use Rattle.brl_pairs.specs.NumberPairs.{IsMissing}
use Rattle.brl_closure.proofs.check.missing.missing_pair.Given as goal

abbrev pub invariant-loop-matching : goal.invariant-loop-matching
invariant-loop-matching l = NoneAmong (IsMissing l.pairs l.ahead l.lead) l.edges.edges l.matching-items l.matching-index
