use Rattle.std.proofs.Common.{◌≡◌, ◌-◌, ◌≤◌, Some, length, slice_get}
use Rattle.brl_pairs.specs.declared.sorted.SortedEdge.{SortedEdge}
use Rattle.brl_pairs.proofs.shared.pass_before.Given as goal

abbrev pub invariant-loop-next : goal.invariant-loop-next
invariant-loop-next l = record {
  from : l.from ≤ l.next;
  within : l.next ≤ length l.others;
  same : (other : SortedEdge) → slice_get l.others l.from ≡ Some other → other.cells ≡ l.edge.cells → l.next ≡ l.from;
}

abbrev pub decreases-loop-next : goal.decreases-loop-next
decreases-loop-next l = length l.others - l.next
