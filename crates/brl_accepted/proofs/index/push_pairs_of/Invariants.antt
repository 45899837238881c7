use Rattle.std.proofs.Common.{◌≡◌, ◌++◌, map, take}
use Rattle.brl_accepted.proofs.index.push_pairs_of.Given as goal

-- the pairs of the rule and the others so far
abbrev pub invariant-loop-other : goal.invariant-loop-other
invariant-loop-other l = l.pairs.items ≡ l.fn.pairs.items ++ map (λ s. (l.one, s)) (take l.other-index l.others)
