use Rattle.brl_search.specs.Smaller.{Keeps}
use Rattle.brl_search.proofs.small.ClashFilter.without_blocks.Given as goal

abbrev pub invariant-loop-size : goal.invariant-loop-size
invariant-loop-size l = Keeps l.self.table.now l.self.rules l.fn.given l.texts

abbrev pub decreases-loop-size : goal.decreases-loop-size
decreases-loop-size l = l.size
