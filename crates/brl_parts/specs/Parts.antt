-- Parts of a machine's steps that are kept, each with its steps by numbers. The project's own
-- choice.
use Rattle.std.specs.Prelude.{◌≡◌, ℕ, ◌==◌, List, [], filter, Option, Some, None, slice_get}
use Rattle.std.specs.Global.{Vec}
use Rattle.std.specs.List.Sorted.{IsNonDecreasingBy}
use Rattle.brl_pairs.specs.Listed.{AreListedEdges}
use Rattle.brl_pairs.specs.declared.edge.ListedEdge.{ListedEdge}
use Rattle.brl_pairs.specs.declared.step.Step.{Step}

-- parts, the edges of each by its number, and the number of edges of all parts
pub record PartsView (P : Type 0) : Type 0 where
  pub parts : List P
  pub edges : List (Vec ListedEdge)
  pub count : ℕ

-- no parts
abbrev pub no_parts : {P : Type 0} → PartsView P
no_parts = record { parts = []; edges = []; count = 0 }

-- this part is kept under this number with these edges
pub record IsKept {P : Type 0} (kept : PartsView P) (number : ℕ) (part : P) (edges : Vec ListedEdge) : Type 0 where
  pub part_at : slice_get kept.parts number ≡ Some part
  pub edges_at : slice_get kept.edges number ≡ Some edges

-- the edges of each part are those of its steps
abbrev pub AreKeptParts : {S P : Type 0} → (P → List (Step S)) → List S → List (List ℕ) → PartsView P → Type 0
AreKeptParts {S} {P} steps_of states cells kept = (number : ℕ) (part : P) (edges : Vec ListedEdge) → IsKept kept number part edges → AreListedEdges states cells (steps_of part) edges.items

-- the edges with a number, or none
abbrev pub or_no_edges : Option (Vec ListedEdge) → List ListedEdge
or_no_edges None = []
or_no_edges (Some edges) = edges.items

-- the edges of the part with this number
abbrev pub edges_of : {P : Type 0} → PartsView P → ℕ → List ListedEdge
edges_of kept number = or_no_edges (slice_get kept.edges number)

-- these are those edges by ascending rule; the edges of one rule keep their order
pub record AreByRule (edges listed : List ListedEdge) : Type 0 where
  pub ascending : IsNonDecreasingBy (λ (e : ListedEdge). e.rule) listed
  pub each : (rule : ℕ) → filter (λ (e : ListedEdge). rule == e.rule) listed ≡ filter (λ (e : ListedEdge). rule == e.rule) edges
