use Rattle.std.proofs.Common.{◌≡◌, ◌<◌, ℕ, Some, length, slice_get}
use Rattle.brl_pairs.specs.declared.sorted.SortedEdge.{SortedEdge}
use Rattle.brl_pairs.proofs.splits.positions_of.Given as goal

abbrev pub invariant-loop-position : goal.invariant-loop-position
invariant-loop-position l = record {
  many : length l.positions.items ≡ l.count;
  each : (n : ℕ) (x : SortedEdge) → n < l.position → slice_get l.sorted n ≡ Some x → (k : ℕ) × (y : SortedEdge) × (slice_get l.positions.items x.place ≡ Some k) × (slice_get l.sorted k ≡ Some y) × (y.place ≡ x.place);
}
