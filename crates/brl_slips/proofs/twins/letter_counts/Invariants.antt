use Rattle.std.proofs.Common.{take}
use Rattle.std.specs.List.{Contains}
use Rattle.brl_slips.specs.Pairing.{AreCounted}
use Rattle.brl_slips.proofs.twins.letter_counts.Given as goal

abbrev pub invariant-loop-twins : goal.invariant-loop-twins
invariant-loop-twins l = AreCounted l.lexicon (Contains (take l.twins-index l.pairs)) l.counts
