use Rattle.std.proofs.Common.{◌≡◌, ◌<◌, ℕ, Some, slice_get}
use Rattle.brl_pairs.specs.declared.edge.Edge.{Edge}
use Rattle.brl_pairs.specs.Listed.{edges_with}
use Rattle.brl_pairs.specs.NumberPairs.{IsFollowed}
use Rattle.brl_closure.specs.Trail.{Advances}
use Rattle.brl_closure.proofs.search.finder.Finder.find_splits.Given as goal

abbrev pub invariant-loop-second : goal.invariant-loop-second
invariant-loop-second g l = record {
  advances : Advances g.M.Machine.behaviour l.self l.fn.trail l.trail;
  followed : (i j : ℕ) (x y : Edge) → i < j → j < l.second → slice_get (edges_with l.state.cells.now l.state.edges.now) i ≡ Some x → slice_get (edges_with l.state.cells.now l.state.edges.now) j ≡ Some y → IsFollowed l.trail.pairs x.next x.cells y;
}
