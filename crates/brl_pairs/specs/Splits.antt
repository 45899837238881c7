-- The splits of a state's edges, by the order of their cells. The project's own choice.
use Rattle.std.specs.Prelude.{◌≡◌, ◌≢◌, ℕ, ◌+◌, ◌<◌, ◌≤◌, Bool, true, Contains, List, length, Some, slice_get}
use Rattle.std.specs.List.Sorted.{IsNonDecreasingBy}
use Rattle.brl_pairs.specs.Sorted.{BeginsWith, DoMatch, cells_of}
use Rattle.brl_pairs.specs.declared.sorted.SortedEdge.{SortedEdge}
use Rattle.brl_pairs.specs.declared.splits.Splits.{Splits}

-- these are exactly the edges that match the cells and whose place is before this one, by ascending
-- place
pub record AreEarlier (cells : List (List ℕ)) (sorted : List SortedEdge) (own : List ℕ) (end : ℕ) (found : List SortedEdge) : Type 0 where
  pub only : (x : SortedEdge) → Contains found x → Contains sorted x × DoMatch own (cells_of cells x) × (x.place < end)
  pub all : (x : SortedEdge) → Contains sorted x → DoMatch own (cells_of cells x) → x.place < end → Contains found x
  pub ascending : IsNonDecreasingBy (λ (x : SortedEdge). x.place) found

-- of the edges at these positions exactly those with the property are found
pub record AreWithin (P : SortedEdge → Type 0) (sorted : List SortedEdge) (low high : ℕ) (found : List SortedEdge) : Type 0 where
  pub only : (x : SortedEdge) → Contains found x → (k : ℕ) × (low ≤ k) × (k < high) × (slice_get sorted k ≡ Some x) × P x
  pub all : (k : ℕ) (x : SortedEdge) → low ≤ k → k < high → slice_get sorted k ≡ Some x → P x → Contains found x

-- the edge is at another position than this one, matches the edge there, and has a place before the
-- limit
pub record IsOther (cells : List (List ℕ)) (sorted : List SortedEdge) (end limit : ℕ) (y x : SortedEdge) : Type 0 where
  pub position : ℕ
  pub apart : position ≢ end
  pub at : slice_get sorted position ≡ Some x
  pub match : DoMatch (cells_of cells y) (cells_of cells x)
  pub before : x.place < limit

-- exactly those edges are found
pub record AreOthers (cells : List (List ℕ)) (sorted : List SortedEdge) (end limit : ℕ) (y : SortedEdge) (found : List SortedEdge) : Type 0 where
  pub only : (x : SortedEdge) → Contains found x → IsOther cells sorted end limit y x
  pub all : (x : SortedEdge) → IsOther cells sorted end limit y x → Contains found x

-- n is one more than the position of the last edge before this position whose cells begin these
-- ones, or 0
pub record IsLastShorter (cells : List (List ℕ)) (sorted : List SortedEdge) (end : ℕ) (own : List ℕ) (n : ℕ) : Type 0 where
  pub before : n ≤ end
  pub begins : (k : ℕ) (x : SortedEdge) → n ≡ k + 1 → slice_get sorted k ≡ Some x → BeginsWith own (cells_of cells x)
  pub others : (k : ℕ) (x : SortedEdge) → n ≤ k → k < end → slice_get sorted k ≡ Some x → BeginsWith own (cells_of cells x) → ⊥

-- for each edge one more than the position of the last edge before it whose cells begin its cells
abbrev pub AreShorter : List (List ℕ) → List SortedEdge → List ℕ → Type 0
AreShorter cells sorted shorter = (k n : ℕ) (x : SortedEdge) → slice_get sorted k ≡ Some x → slice_get shorter k ≡ Some n → IsLastShorter cells sorted k (cells_of cells x) n

-- for each place the position of an edge with it
abbrev pub ArePositions : List SortedEdge → List ℕ → Type 0
ArePositions sorted positions = (x : SortedEdge) → Contains sorted x → (k : ℕ) × (y : SortedEdge) × (slice_get positions x.place ≡ Some k) × (slice_get sorted k ≡ Some y) × (y.place ≡ x.place)

-- An edge has a mark at its place where another one before it begins its cells, and where it is the
-- last such one of another edge.
pub record AreMarks (sorted : List SortedEdge) (shorter : List ℕ) (marks : List Bool) : Type 0 where
  pub own : (k n : ℕ) (x : SortedEdge) → slice_get shorter k ≡ Some n → 0 < n → slice_get sorted k ≡ Some x → slice_get marks x.place ≡ Some true
  pub last : (k n j : ℕ) (x : SortedEdge) → slice_get shorter k ≡ Some n → n ≡ j + 1 → slice_get sorted j ≡ Some x → slice_get marks x.place ≡ Some true

-- the positions of the edges, those of the last shorter ones, and the marks of edges that split
pub record AreSplits (cells : List (List ℕ)) (sorted : List SortedEdge) (splits : Splits) : Type 0 where
  pub positions : ArePositions sorted splits.positions.items
  pub many : length splits.shorter.items ≡ length sorted
  pub shorter : AreShorter cells sorted splits.shorter.items
  pub marks : AreMarks sorted splits.shorter.items splits.marks.items
  pub mark_count : (x : SortedEdge) → Contains sorted x → x.place < length splits.marks.items
