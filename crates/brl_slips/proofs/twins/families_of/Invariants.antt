use Rattle.brl_slips.specs.Pairing.{AreFamilies}
use Rattle.brl_slips.proofs.twins.families_of.Given as goal

abbrev pub invariant-loop-entry : goal.invariant-loop-entry
invariant-loop-entry l = AreFamilies l.lexicon l.entry l.families
