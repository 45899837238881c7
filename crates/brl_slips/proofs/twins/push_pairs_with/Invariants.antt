use Rattle.std.proofs.Common.{take}
use Rattle.brl_slips.specs.Pairing.{AreAll, IsPairWith}
use Rattle.brl_slips.proofs.twins.push_pairs_with.Given as goal

abbrev pub invariant-loop-one : goal.invariant-loop-one
invariant-loop-one l = AreAll (IsPairWith l.lexicon l.other (take l.one-index l.members)) l.pairs.items
