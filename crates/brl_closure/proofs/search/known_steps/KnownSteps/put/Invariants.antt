use Rattle.std.proofs.Common.{◌+◌, ◌-◌, length}
use Rattle.brl_closure.specs.KnownSteps.{AreKnown}
use Rattle.brl_closure.proofs.search.known_steps.KnownSteps.put.Given as goal

abbrev pub invariant-loop-alloc : goal.invariant-loop-alloc
invariant-loop-alloc g l = (m : _) (states : _) → AreKnown m states l.fn.self → AreKnown m states l.self

abbrev pub decreases-loop-alloc : goal.decreases-loop-alloc
decreases-loop-alloc g l = l.number + 1 - length l.self.lists.items
