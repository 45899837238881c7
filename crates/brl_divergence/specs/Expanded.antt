-- Internal. The steps of the states that have been expanded.
use Rattle.std.specs.Prelude.{◌≡◌, ℕ, ◌<◌, Contains, List, length, map, Some, slice_get}
use Rattle.std.specs.Global.{Vec}
use Rattle.brl_pairs.specs.Edges.{AreEdges}
use Rattle.brl_pairs.specs.Runs.{Behaviour}
use Rattle.brl_pairs.specs.Sorted.{IsAtItsPlace, IsSortedOf}
use Rattle.brl_pairs.specs.Splits.{AreSplits}
use Rattle.brl_pairs.specs.declared.splits.Splits.{Splits}
use Rattle.brl_pairs.specs.declared.edge.Edge.{Edge}
use Rattle.brl_pairs.specs.declared.sorted.SortedEdge.{SortedEdge}
use Rattle.brl_divergence.specs.declared.expanded.Expanded.{Expanded}

-- the rules of edges
abbrev pub rules_of_edges : List Edge → List ℕ
rules_of_edges edges = map (λ (e : Edge). e.rule) edges

-- these are the edges of the state with this number, in the order of their cells, and their rules
-- by their places
pub record AreStepsOf {S : Type 0} (m : Behaviour S) (states : List S) (number : ℕ) (cells : List (List ℕ)) (sorted : List SortedEdge) (rules : List ℕ) : Type 0 where
  pub edges : List Edge
  pub are_edges : AreEdges m states number edges
  pub sorted_of : IsSortedOf cells edges sorted
  pub rules_of : rules ≡ rules_of_edges edges

-- the steps of the states with the first numbers are kept
pub record AreExpanded {S : Type 0} (m : Behaviour S) (states : List S) (e : Expanded) : Type 0 where
  pub many : length e.rules.items ≡ length e.edges.items
  pub each : (number : ℕ) (sorted : Vec SortedEdge) (rules : Vec ℕ) → slice_get e.edges.items number ≡ Some sorted → slice_get e.rules.items number ≡ Some rules
      → AreStepsOf m states number e.cells sorted.items rules.items

-- these are two edges of the state with this number, the first before the second, and these are
-- their rules
pub record AreTwoEdges {S : Type 0} (m : Behaviour S) (states : List S) (cells : List (List ℕ)) (number : ℕ) (x y : SortedEdge) (rules : ℕ × ℕ) : Type 0 where
  pub edges : List Edge
  pub are_edges : AreEdges m states number edges
  pub first : IsAtItsPlace cells edges x
  pub second : IsAtItsPlace cells edges y
  pub in_order : x.place < y.place
  pub first_rule : rules.0 ≡ first.edge.rule
  pub second_rule : rules.1 ≡ second.edge.rule

-- this is one of the kept edges of the state with this number
pub record IsEdgeOf (e : Expanded) (number : ℕ) (x : SortedEdge) : Type 0 where
  pub sorted : Vec SortedEdge
  pub at : slice_get e.edges.items number ≡ Some sorted
  pub one : Contains sorted.items x

-- the state with this number is expanded, and one of its edges has this place
pub record IsPlaceOf (e : Expanded) (number place : ℕ) : Type 0 where
  pub there : number < length e.edges.items
  pub rules : Vec ℕ
  pub at : slice_get e.rules.items number ≡ Some rules
  pub within : place < length rules.items

-- these are the splits of the state with this number
abbrev pub AreSplitsOf : Expanded → ℕ → Splits → Type 0
AreSplitsOf e number splits = (sorted : Vec SortedEdge) → slice_get e.edges.items number ≡ Some sorted → AreSplits e.cells sorted.items splits
