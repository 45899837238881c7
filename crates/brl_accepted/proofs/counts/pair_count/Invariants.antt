use Rattle.std.proofs.Common.{◌≡◌, map, take}
use Rattle.brl_accepted.specs.Counting.{each_once, lesser_first}
use Rattle.brl_accepted.proofs.counts.pair_count.Given as goal

-- the pairs so far, each once
abbrev pub invariant-loop-pair : goal.invariant-loop-pair
invariant-loop-pair l = l.once.keys ≡ each_once (map lesser_first (take l.pair-index l.pairs))
