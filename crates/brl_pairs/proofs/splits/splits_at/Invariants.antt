use Rattle.std.proofs.Common.{◌≡◌, ◌+◌, ◌≤◌, ℕ, Some, slice_get}
use Rattle.brl_pairs.specs.Sorted.{BeginsWith, cells_of}
use Rattle.brl_pairs.specs.Splits.{AreWithin}
use Rattle.brl_pairs.specs.declared.sorted.SortedEdge.{SortedEdge}
use Rattle.brl_pairs.proofs.SplitsLaws.{IsEarlierShorter}
use Rattle.brl_pairs.proofs.splits.splits_at.Given as goal

abbrev pub invariant-loop-last : goal.invariant-loop-last
invariant-loop-last l = record {
  before : l.last ≤ l.position;
  begins : (k : ℕ) (x y : SortedEdge) → l.last ≡ k + 1 → slice_get l.sorted k ≡ Some x → slice_get l.sorted l.position ≡ Some y → BeginsWith (cells_of l.cells y) (cells_of l.cells x);
  found : (y : SortedEdge) → slice_get l.sorted l.position ≡ Some y → AreWithin (IsEarlierShorter l.cells l.limit y) l.sorted l.last l.position l.found.items;
}

abbrev pub decreases-loop-last : goal.decreases-loop-last
decreases-loop-last l = l.last
