use Rattle.std.proofs.Common.{◌≡◌, map, take}
use Rattle.brl_accepted.specs.Sets.{pairs_of_sets}
use Rattle.brl_accepted.proofs.sets.pairs_of_sets.Given as goal

-- the pairs of the sets so far
abbrev pub invariant-loop-set : goal.invariant-loop-set
invariant-loop-set l = l.pairs.items ≡ pairs_of_sets l.table (take l.set-index (map (λ set. set.items) l.sets))
