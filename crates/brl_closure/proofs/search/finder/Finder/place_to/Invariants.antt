use Rattle.std.proofs.Common.{◌≡◌, ◌-◌, ◌≤◌, ℕ, length, Some, slice_get}
use Rattle.brl_closure.proofs.search.finder.Finder.place_to.Given as goal

abbrev pub invariant-loop-place : goal.invariant-loop-place
invariant-loop-place g l = (k : ℕ) × (l.place ≤ k) × (x : _) × (slice_get l.listed.items k ≡ Some x) × (x.next ≡ l.to)

abbrev pub decreases-loop-place : goal.decreases-loop-place
decreases-loop-place g l = length l.listed.items - l.place
