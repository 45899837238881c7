use Rattle.std.proofs.Common.{◌≡◌, ◌++◌, flat_map, map, take}
use Rattle.brl_accepted.proofs.index.push_pairs.Given as goal

-- the pairs of the rules so far
abbrev pub invariant-loop-one : goal.invariant-loop-one
invariant-loop-one l = l.pairs.items ≡ l.fn.pairs.items ++ flat_map (λ r. map (λ s. (r, s)) l.others) (take l.one-index l.ones)
