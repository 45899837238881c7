use Rattle.std.proofs.Common.{◌≡◌, ◌≤◌, ℕ, Some, length, slice_get}
use Rattle.brl_pairs.specs.declared.edge.Edge.{Edge}
use Rattle.brl_pairs.specs.declared.sorted.SortedEdge.{SortedEdge}
use Rattle.brl_pairs.specs.Listed.{edges_with}
use Rattle.brl_pairs.specs.NumberPairs.{IsFollowed}
use Rattle.brl_closure.specs.Trail.{Advances}
use Rattle.brl_closure.proofs.search.finder.Finder.find_splits_of.Given as goal

abbrev pub invariant-loop-left : goal.invariant-loop-left
invariant-loop-left g l = record {
  advances : Advances g.M.Machine.behaviour l.self l.fn.trail l.trail;
  within : l.left ≤ length l.found.items;
  followed : (k : ℕ) (s : SortedEdge) (x y : Edge) → l.left ≤ k → slice_get l.found.items k ≡ Some s → slice_get (edges_with l.state.cells.now l.state.edges.now) s.place ≡ Some x → slice_get (edges_with l.state.cells.now l.state.edges.now) l.second ≡ Some y → IsFollowed l.trail.pairs x.next x.cells y;
}

abbrev pub decreases-loop-left : goal.decreases-loop-left
decreases-loop-left g l = l.left
