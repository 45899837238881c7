-- Internal. What a search finds by edges: the splits of a state, and the successors of a pair.
use Rattle.std.specs.Prelude.{◌≡◌, ◌≢◌, ℕ, Bool, true, ◌<◌, ◌≤◌, List, [], ◌++◌, ◌⊎◌, length, Option, None, Some, slice_get}
use Rattle.brl_pairs.specs.Body.{NumberPair}
use Rattle.brl_pairs.specs.Runs.{Behaviour}
use Rattle.brl_pairs.specs.Edges.{AreEdges}
use Rattle.brl_pairs.specs.Sorted.{AreSortedEdges}
use Rattle.brl_pairs.specs.declared.sorted.SortedEdge.{SortedEdge}
use Rattle.std.specs.Global.{Vec}
use Rattle.brl_pairs.specs.NumberPairs.{IsFollowed}
use Rattle.brl_pairs.specs.declared.edge.Edge.{Edge}
use Rattle.brl_closure.specs.declared.search.trail.Origins.{Origins}
use Rattle.brl_closure.specs.Trail.{IsPairOrigin}

-- the run ahead, its lead and the next state and cells of the edge that the run behind takes are in
-- range of this many states
pub record FitsFollowing (states ahead : ℕ) (lead : List ℕ) (next : ℕ) (cells : List ℕ) : Type 0 where
  pub ahead_there : ahead < states
  pub behind_there : next < states
  pub short_lead : length lead ≤ 1024
  pub short_cells : length cells ≤ 1024

-- the origins are those of the pair that the run behind makes by an edge with this next state and
-- these cells
pub record Explains {S : Type 0} (m : Behaviour S) (states : List S) (pairs : List NumberPair) (ahead : ℕ) (lead : List ℕ) (next : ℕ) (cells : List ℕ) (origins : Origins) : Type 0 where
  pub still : (p : NumberPair) → p.ahead ≡ ahead → p.behind ≡ next → lead ≡ cells ++ p.lead → IsPairOrigin m states pairs p origins.still
  pub swapped : (p : NumberPair) → p.ahead ≡ next → p.behind ≡ ahead → p.lead ≢ [] → cells ≡ lead ++ p.lead → IsPairOrigin m states pairs p origins.swapped

-- each split of the state with this number is among the pairs, and the next states of its steps are
-- among the states
pub record IsExpanded {S : Type 0} (m : Behaviour S) (states : List S) (pairs : List NumberPair) (number : ℕ) : Type 0 where
  pub edges : List Edge
  pub are_edges : AreEdges m states number edges
  pub splits : (i j : ℕ) (x y : Edge) → i < j → slice_get edges i ≡ Some x → slice_get edges j ≡ Some y → IsFollowed pairs x.next x.cells y

-- each split of two edges that are shared is among the pairs
abbrev pub AreFollowedIfShared : List NumberPair → List Edge → List SortedEdge → List Bool → Type 0
AreFollowedIfShared pairs edges sorted shared = (k l : ℕ) (x y : SortedEdge) (e f : Edge) → slice_get shared k ≡ Some true → slice_get shared l ≡ Some true → slice_get sorted k ≡ Some x → slice_get sorted l ≡ Some y
    → x.place < y.place → slice_get edges x.place ≡ Some e → slice_get edges y.place ≡ Some f → IsFollowed pairs e.next e.cells f

-- these are no edges, or the sorted edges of an expanded state
abbrev pub AreOfExpanded : {S : Type 0} → Behaviour S → List S → List NumberPair → List (List ℕ) → List SortedEdge → Type 0
AreOfExpanded m states pairs cells sorted = (sorted ≡ []) ⊎ ((number : ℕ) × AreSortedEdges m states number cells sorted × IsExpanded m states pairs number)

-- the successors of the pair with this number are among the pairs
pub record IsWalked {S : Type 0} (m : Behaviour S) (states : List S) (pairs : List NumberPair) (number : ℕ) : Type 0 where
  pub pair : NumberPair
  pub at : slice_get pairs number ≡ Some pair
  pub edges : List Edge
  pub are_edges : AreEdges m states pair.behind edges
  pub moves : (k : ℕ) (e : Edge) → slice_get edges k ≡ Some e → IsFollowed pairs pair.ahead pair.lead e

-- each list has the sorted edges of the state whose number is the place of the list
abbrev pub AreKeptEdges : {S : Type 0} → Behaviour S → List S → List (List ℕ) → List (Vec SortedEdge) → Type 0
AreKeptEdges m states cells kept = (number : ℕ) (sorted : Vec SortedEdge) → slice_get kept number ≡ Some sorted → AreSortedEdges m states number cells sorted.items

-- each list has the sorted edges of the state whose number is the place of the list, or none
abbrev pub AreKeptOrNone : {S : Type 0} → Behaviour S → List S → List (List ℕ) → List (Vec SortedEdge) → Type 0
AreKeptOrNone m states cells kept = (number : ℕ) (sorted : Vec SortedEdge) → slice_get kept number ≡ Some sorted → (sorted.items ≡ []) ⊎ AreSortedEdges m states number cells sorted.items

-- the edges of a list, or none
abbrev pub items_or_none : Option (Vec SortedEdge) → List SortedEdge
items_or_none None = []
items_or_none (Some own) = own.items

-- the edges of the state with a number, or none
abbrev pub edges_or_none : List (Vec SortedEdge) → Option ℕ → List SortedEdge
edges_or_none lists None = []
edges_or_none lists (Some number) = items_or_none (slice_get lists number)

-- each list is the one that was there, or has no edges
abbrev pub AreSomeOf : List (Vec SortedEdge) → List (Vec SortedEdge) → Type 0
AreSomeOf old new = (number : ℕ) (sorted : Vec SortedEdge) → slice_get new number ≡ Some sorted → (sorted.items ≡ []) ⊎ (slice_get old number ≡ Some sorted)
