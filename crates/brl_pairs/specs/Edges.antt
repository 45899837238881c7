-- Steps by numbers: their rule, their cells and the number of their next state. The project's own
-- choice.
use Rattle.std.specs.Prelude.{◌≡◌, ℕ, ◌<◌, ◌≤◌, List, length, Some, slice_get}
use Rattle.brl_pairs.specs.declared.edge.Edge.{Edge}
use Rattle.brl_pairs.specs.Runs.{Behaviour, IsListedAt}
use Rattle.brl_pairs.specs.declared.step.Step.{Step}

-- the edge has the step's rule and cells, and the number of the step's next state
pub record IsEdge {S : Type 0} (states : List S) (x : Step S) (e : Edge) : Type 0 where
  pub rule : e.rule ≡ x.rule
  pub cells : e.cells ≡ x.cells
  pub next : slice_get states e.next ≡ Some x.next

-- the first n steps of this list have these edges, in its order
pub record AreFirstEdges {S : Type 0} (states : List S) (listed : List (Step S)) (n : ℕ) (edges : List Edge) : Type 0 where
  pub count : length edges ≡ n
  pub each : (place : ℕ) (x : Step S) (e : Edge) → IsListedAt listed place x → slice_get edges place ≡ Some e → IsEdge states x e

-- the steps of the state with this number have these edges, in the listed order
pub record AreEdges {S : Type 0} (m : Behaviour S) (states : List S) (number : ℕ) (edges : List Edge) : Type 0 where
  pub state : S
  pub at : slice_get states number ≡ Some state
  pub listed : AreFirstEdges states (m.steps state) (length (m.steps state)) edges

-- the edges ascend by rule number
abbrev pub AreInOrder : List Edge → Type 0
AreInOrder edges = (i j : ℕ) (x y : Edge) → i < j → slice_get edges i ≡ Some x → slice_get edges j ≡ Some y → x.rule ≤ y.rule
