-- Internal. The edges of a state that a lead can follow.
use Rattle.std.specs.Prelude.{◌≡◌, ℕ, ◌<◌, List, Some, slice_get}
use Rattle.std.specs.List.Sorted.{IsNonDecreasingBy}
use Rattle.brl_pairs.specs.Sorted.{DoMatch}
use Rattle.brl_pairs.specs.declared.edge.Edge.{Edge}
use Rattle.brl_pairs.specs.declared.sorted.SortedEdge.{SortedEdge}

-- these have the places of exactly the edges before this place whose cells match the lead,
-- ascending
pub record AreFound (edges : List Edge) (lead : List ℕ) (end : ℕ) (found : List SortedEdge) : Type 0 where
  pub only : (k : ℕ) (x : SortedEdge) → slice_get found k ≡ Some x → (e : Edge) × (slice_get edges x.place ≡ Some e) × DoMatch lead e.cells × (x.place < end)
  pub all : (place : ℕ) (e : Edge) → place < end → slice_get edges place ≡ Some e → DoMatch lead e.cells → (k : ℕ) × (x : SortedEdge) × (slice_get found k ≡ Some x) × (x.place ≡ place)
  pub ascending : IsNonDecreasingBy (λ (x : SortedEdge). x.place) found

-- the edges of a state in listed order and in the order of their cells, and the cells that are kept
pub record SortedView : Type 0 where
  pub cells : List (List ℕ)
  pub edges : List Edge
  pub sorted : List SortedEdge
