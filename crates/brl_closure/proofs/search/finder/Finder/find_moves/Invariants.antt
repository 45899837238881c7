use Rattle.std.proofs.Common.{◌≡◌, ◌<◌, ℕ, Some, slice_get}
use Rattle.brl_pairs.specs.Sorted.{cells_of}
use Rattle.brl_pairs.specs.declared.edge.Edge.{Edge}
use Rattle.brl_pairs.specs.declared.sorted.SortedEdge.{SortedEdge}
use Rattle.brl_pairs.specs.NumberPairs.{IsFollowed}
use Rattle.brl_closure.specs.Trail.{AddsPairs, Advances, IsMoveOf}
use Rattle.brl_closure.proofs.search.finder.Finder.find_moves.Given as goal

abbrev pub invariant-loop-edge : goal.invariant-loop-edge
invariant-loop-edge g l = record {
  advances : Advances g.M.Machine.behaviour l.self l.fn.trail l.trail;
  adds : AddsPairs (IsMoveOf l.number) l.fn.trail l.trail;
  followed : (k : ℕ) (s : SortedEdge) (e : Edge) → k < l.edge-index → slice_get l.edge-items k ≡ Some s → e.next ≡ s.next → e.cells ≡ cells_of l.cells s → IsFollowed l.trail.pairs l.pair.ahead l.pair.lead e;
}
