use Rattle.std.proofs.Common.{◌≡◌, ◌⊎◌, ◌<◌, ℕ, Contains, Some, slice_get}
use Rattle.brl_pairs.specs.Shared.{IsTwoOf}
use Rattle.brl_pairs.specs.declared.shared.TwoPlaces.{TwoPlaces}
use Rattle.brl_pairs.specs.declared.sorted.SortedEdge.{SortedEdge}
use Rattle.brl_pairs.proofs.shared.push_splits.Given as goal

abbrev pub invariant-loop-other : goal.invariant-loop-other
invariant-loop-other l = record {
  only : (split : TwoPlaces) → Contains l.splits.items split → Contains l.fn.splits.items split ⊎ ((x : SortedEdge) × Contains l.found x × IsTwoOf l.place x.place split);
  kept : (split : TwoPlaces) → Contains l.fn.splits.items split → Contains l.splits.items split;
  added : (k : ℕ) (x : SortedEdge) (split : TwoPlaces) → k < l.other-index → slice_get l.found k ≡ Some x → IsTwoOf l.place x.place split → Contains l.splits.items split;
}
