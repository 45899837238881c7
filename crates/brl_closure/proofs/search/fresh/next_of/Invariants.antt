use Rattle.brl_closure.proofs.Fresh.{IsNextBelow}
use Rattle.brl_closure.proofs.search.fresh.next_of.Given as goal

abbrev pub invariant-loop-place : goal.invariant-loop-place
invariant-loop-place g l = IsNextBelow l.fresh l.place l.least
