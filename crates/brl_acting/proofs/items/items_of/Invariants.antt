use Rattle.std.proofs.Common.{◌≡◌, ◌++◌, length, map}
use Rattle.brl_acting.specs.Tests.{item_view, items, items_after}
use Rattle.brl_acting.proofs.items.items_of.Given as goal

abbrev pub invariant-loop-mark : goal.invariant-loop-mark
invariant-loop-mark l = map item_view l.items.items ++ items_after 0 l.negated l.rest ≡ items l.test

abbrev pub decreases-loop-mark : goal.decreases-loop-mark
decreases-loop-mark l = length l.rest
