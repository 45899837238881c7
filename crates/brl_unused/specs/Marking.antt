-- Internal. How live states are marked, in rounds, and then the rules of edges that lead to them.
use Rattle.std.specs.Prelude.{ℕ, ◌≡◌, ◌<◌, ◌⊎◌, ◌↔◌, Bool, not, true, List, Some, count_by, length, slice_get}
use Rattle.std.specs.List.{Contains}
use Rattle.brl_pairs.specs.declared.edge.ListedEdge.{ListedEdge}
use Rattle.brl_unused.specs.Graph.{HasEdge, IsLive}
use Rattle.brl_unused.specs.declared.found.FoundStates.{FoundStates}

-- ---- Live states

-- one of these edges leads to a marked state
pub record LeadToLive (edges : List ListedEdge) (live : List Bool) : Type 0 where
  pub edge : ListedEdge
  pub one : Contains edges edge
  pub is_live : slice_get live edge.next ≡ Some true

-- an edge of the state at this place leads to a marked state
pub record LeadsOn {S D : Type 0} (f : FoundStates S D) (live : List Bool) (place : ℕ) : Type 0 where
  pub edge : ListedEdge
  pub has : HasEdge f place edge
  pub is_live : slice_get live edge.next ≡ Some true

-- live states are marked, the final ones among them
pub record AreMarked {S D : Type 0} (ends : List Bool) (f : FoundStates S D) (live : List Bool) : Type 0 where
  pub count : length live ≡ length ends
  pub finals : (number : ℕ) → slice_get ends number ≡ Some true → slice_get live number ≡ Some true
  pub live_ones : (number : ℕ) → slice_get live number ≡ Some true → IsLive ends f number

-- how many states aren't marked
abbrev pub unmarked : List Bool → ℕ
unmarked live = count_by not live

-- the state at this place is marked if an edge of it leads to a marked state
abbrev pub IsClosedAt : {S D : Type 0} → FoundStates S D → List Bool → ℕ → Type 0
IsClosedAt f live place = (number : ℕ) → slice_get f.order.items place ≡ Some number → LeadsOn f live place → slice_get live number ≡ Some true

-- each state that is found is marked so
abbrev pub IsClosed : {S D : Type 0} → FoundStates S D → List Bool → Type 0
IsClosed f live = (place : ℕ) → IsClosedAt f live place

-- ---- Rules

-- one of these edges is of this rule and leads to a live state
pub record Takes (edges : List ListedEdge) (live : List Bool) (rule : ℕ) : Type 0 where
  pub edge : ListedEdge
  pub one : Contains edges edge
  pub of_rule : edge.rule ≡ rule
  pub is_live : slice_get live edge.next ≡ Some true

-- marked are those that were, and the rules of these edges that lead to live states
pub record MarksMore (edges : List ListedEdge) (live old new : List Bool) : Type 0 where
  pub count : length new ≡ length old
  pub each : (rule : ℕ) → rule < length old → (slice_get new rule ≡ Some true) ↔ ((slice_get old rule ≡ Some true) ⊎ Takes edges live rule)

-- an edge of one of the first states, this many, is of this rule and leads to a live state
pub record TakesBelow {S D : Type 0} (f : FoundStates S D) (live : List Bool) (end rule : ℕ) : Type 0 where
  pub place : ℕ
  pub low : place < end
  pub edge : ListedEdge
  pub has : HasEdge f place edge
  pub of_rule : edge.rule ≡ rule
  pub is_live : slice_get live edge.next ≡ Some true

-- a rule with a number below this one is marked where some edge of it, of one of the first states,
-- leads to a live state, and no other is
pub record AreMarkedBy {S D : Type 0} (f : FoundStates S D) (live : List Bool) (end rules : ℕ) (marks : List Bool) : Type 0 where
  pub count : length marks ≡ rules
  pub each : (rule : ℕ) → rule < rules → (slice_get marks rule ≡ Some true) ↔ TakesBelow f live end rule
