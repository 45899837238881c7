use Rattle.std.proofs.Common.{◌≡◌, ◌<◌, ◌≤◌, ℕ, Bool, IsFalse, IsTrue, List, length}
use Rattle.brl_unused.specs.Marking.{AreMarked, IsClosedAt, unmarked}
use Rattle.brl_unused.proofs.graph.mark_round.Given as goal

abbrev pub invariant-loop-place : goal.invariant-loop-place
invariant-loop-place g l = record {
  count : length l.live.items ≡ length l.initial.live.items;
  within : l.place ≤ length l.found.order.items;
  marked : (ends : List Bool) → AreMarked ends l.found l.initial.live.items → AreMarked ends l.found l.live.items;
  most : unmarked l.live.items ≤ unmarked l.initial.live.items;
  fewer : IsTrue l.more → unmarked l.live.items < unmarked l.initial.live.items;
  closed : IsFalse l.more → (place : ℕ) → l.place ≤ place → IsClosedAt l.found l.live.items place;
}

abbrev pub decreases-loop-place : goal.decreases-loop-place
decreases-loop-place g l = l.place
