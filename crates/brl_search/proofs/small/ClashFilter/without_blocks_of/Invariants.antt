use Rattle.std.proofs.Common.{◌-◌, length}
use Rattle.brl_search.specs.Smaller.{Keeps}
use Rattle.brl_search.proofs.small.ClashFilter.without_blocks_of.Given as goal

abbrev pub invariant-loop-start : goal.invariant-loop-start
invariant-loop-start l = Keeps l.self.table.now l.self.rules l.fn.given l.texts

abbrev pub decreases-loop-start : goal.decreases-loop-start
decreases-loop-start l = length l.texts.left.items - l.start
