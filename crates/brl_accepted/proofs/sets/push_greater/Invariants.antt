use Rattle.std.proofs.Common.{◌≡◌, ◌++◌, take}
use Rattle.brl_accepted.specs.Sets.{greater_pairs}
use Rattle.brl_accepted.proofs.sets.push_greater.Given as goal

-- the pairs of the greater numbers so far
abbrev pub invariant-loop-other : goal.invariant-loop-other
invariant-loop-other l = l.pairs.items ≡ l.fn.pairs.items ++ greater_pairs (take l.other-index l.numbers) l.number
