-- Steps by numbers, in listed order: the numbers of their cells, which are kept, and of their next
-- states. The project's own choice.
use Rattle.std.specs.Prelude.{◌≡◌, ℕ, ◌<◌, List, length, map, Some, slice_get}
use Rattle.brl_pairs.specs.Runs.{Behaviour, IsListedAt}
use Rattle.brl_pairs.specs.Sorted.{or_none}
use Rattle.brl_pairs.specs.declared.edge.Edge.{Edge}
use Rattle.brl_pairs.specs.declared.edge.ListedEdge.{ListedEdge}
use Rattle.brl_pairs.specs.declared.step.Step.{Step}

-- the edge has the step's rule, and the numbers of its cells and of its next state
pub record IsByNumbers {S : Type 0} (states : List S) (cells : List (List ℕ)) (x : Step S) (e : ListedEdge) : Type 0 where
  pub rule : e.rule ≡ x.rule
  pub own_cells : slice_get cells e.cells ≡ Some x.cells
  pub next : slice_get states e.next ≡ Some x.next

-- these are the edges of these steps, in their order
pub record AreListedEdges {S : Type 0} (states : List S) (cells : List (List ℕ)) (listed : List (Step S)) (edges : List ListedEdge) : Type 0 where
  pub count : length edges ≡ length listed
  pub each : (place : ℕ) (x : Step S) (e : ListedEdge) → IsListedAt listed place x → slice_get edges place ≡ Some e → IsByNumbers states cells x e

-- these are the edges of the state with this number, in the order of its steps
pub record AreEdgesOf {S : Type 0} (m : Behaviour S) (states : List S) (cells : List (List ℕ)) (number : ℕ) (edges : List ListedEdge) : Type 0 where
  pub state : S
  pub at : slice_get states number ≡ Some state
  pub listed : AreListedEdges states cells (m.steps state) edges

-- an edge with its cells in place of their number
abbrev pub edge_of : List (List ℕ) → ListedEdge → Edge
edge_of cells e = record { rule = e.rule; cells = or_none (slice_get cells e.cells); next = e.next }

-- these edges with their cells
abbrev pub edges_with : List (List ℕ) → List ListedEdge → List Edge
edges_with cells edges = map (edge_of cells) edges

-- the cells of each of these edges are kept
abbrev pub HaveCells : List (List ℕ) → List ListedEdge → Type 0
HaveCells cells edges = (place : ℕ) (e : ListedEdge) → slice_get edges place ≡ Some e → e.cells < length cells
