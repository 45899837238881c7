use Rattle.std.proofs.Common.{◌≡◌, ◌++◌, flat_map, take}
use Rattle.brl_accepted.specs.Sets.{greater_pairs}
use Rattle.brl_accepted.proofs.sets.push_ordered.Given as goal

-- the pairs of the numbers so far and those that are greater
abbrev pub invariant-loop-number : goal.invariant-loop-number
invariant-loop-number l = l.pairs.items ≡ l.fn.pairs.items ++ flat_map (greater_pairs l.numbers) (take l.number-index l.numbers)
