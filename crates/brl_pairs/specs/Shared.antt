-- Edges that a state shares with another one, and the splits that are left. The project's own
-- choice.
use Rattle.std.specs.Prelude.{◌≡◌, ℕ, ◌<◌, Bool, true, false, Contains, List, ◌⊎◌, length, Some, slice_get}
use Rattle.brl_pairs.specs.Sorted.{DoMatch, cells_of}
use Rattle.brl_pairs.specs.declared.shared.TwoPlaces.{TwoPlaces}
use Rattle.brl_pairs.specs.declared.sorted.SortedEdge.{SortedEdge}

-- the edge at this position of the other list has the same cells and the same next state
pub record IsLikeAt (others : List SortedEdge) (position : ℕ) (x : SortedEdge) : Type 0 where
  pub other : SortedEdge
  pub at : slice_get others position ≡ Some other
  pub same_cells : other.cells ≡ x.cells
  pub same_next : other.next ≡ x.next

-- Each shared edge has one of its own among the others, with the same cells and the same next
-- state. All edges are shared with themselves.
pub record AreShared (sorted others : List SortedEdge) (shared : List Bool) : Type 0 where
  -- the position of a shared edge's own one
  pub own : ℕ → ℕ
  pub count : length shared ≡ length sorted
  pub like : (k : ℕ) (x : SortedEdge) → slice_get shared k ≡ Some true → slice_get sorted k ≡ Some x → IsLikeAt others (own k) x
  pub apart : (k l : ℕ) → k < l → slice_get shared k ≡ Some true → slice_get shared l ≡ Some true → own k < own l
  pub all : sorted ≡ others → (k : ℕ) → k < length sorted → slice_get shared k ≡ Some true

-- ---- The splits that are left

-- one of the edges at two positions isn't shared
abbrev pub IsOneUnshared : List Bool → ℕ → ℕ → Type 0
IsOneUnshared shared k l = (slice_get shared k ≡ Some false) ⊎ (slice_get shared l ≡ Some false)

-- these are two places, the lesser one first
abbrev pub IsTwoOf : ℕ → ℕ → TwoPlaces → Type 0
IsTwoOf one other split = (split.first < split.second) × (((split.first ≡ one) × (split.second ≡ other)) ⊎ ((split.first ≡ other) × (split.second ≡ one)))

-- two edges, at two positions of the order of cells, split, and one of them isn't shared. The first
-- one comes before the second in listed order.
pub record IsUnsharedSplit (cells : List (List ℕ)) (sorted : List SortedEdge) (shared : List Bool) (split : TwoPlaces) : Type 0 where
  pub k : ℕ
  pub l : ℕ
  pub first : SortedEdge
  pub second : SortedEdge
  pub first_at : slice_get sorted k ≡ Some first
  pub second_at : slice_get sorted l ≡ Some second
  pub first_place : first.place ≡ split.first
  pub second_place : second.place ≡ split.second
  pub in_order : split.first < split.second
  pub match : DoMatch (cells_of cells first) (cells_of cells second)
  pub unshared : IsOneUnshared shared k l

-- these are the splits that have an edge which isn't shared
pub record AreUnsharedSplits (cells : List (List ℕ)) (sorted : List SortedEdge) (shared : List Bool) (splits : List TwoPlaces) : Type 0 where
  pub only : (split : TwoPlaces) → Contains splits split → IsUnsharedSplit cells sorted shared split
  pub all : (split : TwoPlaces) → IsUnsharedSplit cells sorted shared split → Contains splits split
