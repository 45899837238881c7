use Rattle.std.specs.Prelude.{◌≡◌, ◌<◌, ℕ, Some, length, slice_get}
use Rattle.brl_pairs.specs.declared.edge.ListedEdge.{ListedEdge}
use Rattle.brl_tests.proofs.tests.machines.sorted.have_cells.Given as goal

-- the cells of the edges that were tested are kept
abbrev pub invariant-loop-edge : goal.invariant-loop-edge
invariant-loop-edge l = (k : ℕ) (e : ListedEdge) → k < l.edge-index → slice_get l.edges k ≡ Some e → e.cells < length l.kept
