use Rattle.std.proofs.Common.{◌≡◌, ◌+◌, ◌-◌, ◌≤◌, Some, length, slice_get}
use Rattle.brl_pairs.specs.Splits.{AreWithin}
use Rattle.brl_pairs.specs.declared.sorted.SortedEdge.{SortedEdge}
use Rattle.brl_pairs.proofs.SplitsLaws.{IsEarlierLonger}
use Rattle.brl_pairs.proofs.splits.earlier_longer.Given as goal

abbrev pub invariant-loop-next : goal.invariant-loop-next
invariant-loop-next l = record {
  low : l.position + 1 ≤ l.next;
  within : l.next ≤ length l.sorted;
  found : (y : SortedEdge) → slice_get l.sorted l.position ≡ Some y → AreWithin (IsEarlierLonger l.cells l.limit y) l.sorted (l.position + 1) l.next l.found.items;
}

abbrev pub decreases-loop-next : goal.decreases-loop-next
decreases-loop-next l = length l.sorted - l.next
