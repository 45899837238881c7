use Rattle.std.proofs.Common.{◌≡◌, ◌<◌, ℕ, Some, slice_get}
use Rattle.brl_pairs.specs.Listed.{edges_with}
use Rattle.brl_pairs.specs.declared.shared.TwoPlaces.{TwoPlaces}
use Rattle.brl_closure.specs.Trail.{Advances}
use Rattle.brl_closure.proofs.SharedSplits.{IsFollowedSplit}
use Rattle.brl_closure.proofs.search.finder.Finder.find_new_splits.Given as goal

abbrev pub invariant-loop-split : goal.invariant-loop-split
invariant-loop-split g l = record {
  advances : Advances g.M.Machine.behaviour l.self l.fn.trail l.trail;
  followed : (n : ℕ) (split : TwoPlaces) → n < l.split-index → slice_get l.split-items n ≡ Some split → IsFollowedSplit l.trail.pairs (edges_with l.state.cells.now l.state.edges.now) split;
}
