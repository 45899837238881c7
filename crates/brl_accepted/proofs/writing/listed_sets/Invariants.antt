use Rattle.std.proofs.Common.{◌≡◌, filter, map, take}
use Rattle.brl_accepted.specs.Writing.{is_listed_set}
use Rattle.brl_accepted.proofs.writing.listed_sets.Given as goal

-- the sets so far that have a listed pair
abbrev pub invariant-loop-set : goal.invariant-loop-set
invariant-loop-set l = map (λ set. set.items) l.found.items ≡ filter (is_listed_set l.table l.listed) (take l.set-index (map (λ set. set.items) l.sets))
