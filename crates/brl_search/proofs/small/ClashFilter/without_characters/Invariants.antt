use Rattle.brl_search.specs.Smaller.{Keeps, size_of}
use Rattle.brl_search.proofs.small.ClashFilter.without_characters.Given as goal

abbrev pub invariant-loop-texts : goal.invariant-loop-texts
invariant-loop-texts l = Keeps l.self.table.now l.self.rules l.fn.given l.texts

abbrev pub decreases-loop-texts : goal.decreases-loop-texts
decreases-loop-texts l = size_of l.texts
