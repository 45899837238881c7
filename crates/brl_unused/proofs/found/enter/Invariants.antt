use Rattle.std.proofs.Common.{◌≡◌, ◌≤◌, Contains, length, take}
use Rattle.brl_pairs.specs.declared.edge.ListedEdge.{ListedEdge}
use Rattle.brl_unused.specs.Exploring.{Enters, MarksAre}
use Rattle.brl_unused.proofs.found.enter.Given as goal

abbrev pub invariant-loop-edge : goal.invariant-loop-edge
invariant-loop-edge l = record {
  marked : MarksAre l.order.items l.marks.items;
  count : length l.marks.items ≡ length l.initial.marks.items;
  enters : Enters l.edges l.initial.order.items l.order.items;
  all : (e : ListedEdge) → Contains (take l.edge-index l.edges) e → Contains l.order.items e.next;
  few : length l.order.items ≤ l.limit;
}
