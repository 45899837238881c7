-- Internal. The edges of a state that misses no split.
use Rattle.std.specs.Prelude.{◌≡◌, ◌≢◌, ℕ, ◌<◌, Bool, true, false, List, length, Some, slice_get}
use Rattle.std.specs.Global.{Vec}
use Rattle.brl_closure.specs.Sorted.{SortedView}
use Rattle.brl_closure.specs.Steps.{HasOfPlace, MissUnexcused}
use Rattle.brl_pairs.specs.Body.{NumberPair}
use Rattle.brl_pairs.specs.NumberPairs.{IsMissing}
use Rattle.brl_pairs.specs.declared.edge.Edge.{Edge}
use Rattle.brl_pairs.specs.declared.excused.Excused.{Excused}
use Rattle.brl_pairs.specs.declared.sorted.SortedEdge.{SortedEdge}

-- no two edges split into a pair that isn't listed, unless they are excused
abbrev pub MissNone : Excused → List NumberPair → List Edge → Type 0
MissNone excused pairs edges = (i j : ℕ) (x y : Edge) → i < j → slice_get edges i ≡ Some x → slice_get edges j ≡ Some y → MissUnexcused excused pairs x y → ⊥

-- the edge has the cells and the next state of the sorted one
pub record HasCellsAndNext (cells : List (List ℕ)) (z : SortedEdge) (e : Edge) : Type 0 where
  pub own_cells : slice_get cells z.cells ≡ Some e.cells
  pub next : z.next ≡ e.next

-- the cells of these edges are kept, and no two of them split into a pair that isn't listed
pub record IsPassed (pairs : List NumberPair) (cells : List (List ℕ)) (sorted : List SortedEdge) : Type 0 where
  pub kept : (k : ℕ) (z : SortedEdge) → slice_get sorted k ≡ Some z → z.cells < length cells
  pub listed : (k l : ℕ) (z w : SortedEdge) (e f : Edge) → k ≢ l → slice_get sorted k ≡ Some z → slice_get sorted l ≡ Some w
      → HasCellsAndNext cells z e → HasCellsAndNext cells w f → IsMissing pairs e.next e.cells f → ⊥

-- so it is with each of these lists
abbrev pub ArePassed : List NumberPair → List (List ℕ) → List (Vec SortedEdge) → Type 0
ArePassed pairs cells lists = (n : ℕ) (list : Vec SortedEdge) → slice_get lists n ≡ Some list → IsPassed pairs cells list.items

-- two edges that are both shared don't split into a pair that isn't listed
abbrev pub AreListedIfShared : List NumberPair → SortedView → List Bool → Type 0
AreListedIfShared pairs edges shared = (k l : ℕ) (z w : SortedEdge) (e f : Edge) → k ≢ l → slice_get shared k ≡ Some true → slice_get shared l ≡ Some true → slice_get edges.sorted k ≡ Some z → slice_get edges.sorted l ≡ Some w
    → HasCellsAndNext edges.cells z e → HasCellsAndNext edges.cells w f → IsMissing pairs e.next e.cells f → ⊥

-- two edges of these rules, in this order, have the property, and one of them is at this position
-- of the order of cells and isn't shared
pub record HasOfUnshared (Has : Edge → Edge → Type 0) (edges : SortedView) (shared : List Bool) (position first second : ℕ) : Type 0 where
  pub sorted : SortedEdge
  pub at : slice_get edges.sorted position ≡ Some sorted
  pub unshared : slice_get shared position ≡ Some false
  pub has : HasOfPlace Has edges.edges sorted.place first second
