use Rattle.std.proofs.Common.{◌≡◌, ◌++◌, take}
use Rattle.brl_clashes.proofs.accepted.push_pairs.Given as goal

-- the pairs so far are listed
abbrev pub invariant-loop-pair : goal.invariant-loop-pair
invariant-loop-pair l = l.listed ≡ l.fn.listed ++ take l.pair-index l.pairs
