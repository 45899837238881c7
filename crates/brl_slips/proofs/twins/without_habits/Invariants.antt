use Rattle.std.proofs.Common.{take}
use Rattle.std.specs.List.{Contains}
use Rattle.brl_slips.specs.Pairing.{AreAll}
use Rattle.brl_slips.specs.Twins.{AreRare, letters}
use Rattle.brl_slips.proofs.twins.without_habits.Given as goal

abbrev pub invariant-loop-twins : goal.invariant-loop-twins
invariant-loop-twins l = AreAll (λ twins. Contains (take l.twins-index l.pairs) twins × AreRare l.lexicon (letters l.lexicon twins)) l.kept.items
