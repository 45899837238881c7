use Rattle.brl_slips.specs.Pairing.{AreAll, IsPairBelow}
use Rattle.brl_slips.proofs.twins.candidates.Given as goal

abbrev pub invariant-loop-other : goal.invariant-loop-other
invariant-loop-other l = AreAll (IsPairBelow l.lexicon l.other) l.pairs.items
