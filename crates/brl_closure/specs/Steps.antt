-- Internal. What a pass over the edges of one state finds.
use Rattle.std.specs.Prelude.{ℕ, ◌≡◌, ◌<◌, ◌⊎◌, List, Some, slice_get}
use Rattle.brl_pairs.specs.Body.{NumberPair}
use Rattle.brl_pairs.specs.Excused.{AreExcusedEdges}
use Rattle.brl_pairs.specs.NumberPairs.{IsMissing}
use Rattle.brl_pairs.specs.declared.edge.Edge.{Edge}
use Rattle.brl_pairs.specs.declared.excused.Excused.{Excused}

-- an edge of this rule has the property
pub record HasOfRule (Has : Edge → Type 0) (edges : List Edge) (rule : ℕ) : Type 0 where
  pub place : ℕ
  pub edge : Edge
  pub at : slice_get edges place ≡ Some edge
  pub has_rule : edge.rule ≡ rule
  pub has : Has edge

-- an edge of this rule, before this place, has the property
pub record HasBefore (Has : Edge → Type 0) (edges : List Edge) (end rule : ℕ) : Type 0 where
  pub found : HasOfRule Has edges rule
  pub before : found.place < end

-- two edges of these rules, in this order, have the property
pub record HasOfRules (Has : Edge → Edge → Type 0) (edges : List Edge) (first second : ℕ) : Type 0 where
  pub i : ℕ
  pub j : ℕ
  pub earlier : Edge
  pub later : Edge
  pub in_order : i < j
  pub earlier_at : slice_get edges i ≡ Some earlier
  pub later_at : slice_get edges j ≡ Some later
  pub has_first : earlier.rule ≡ first
  pub has_second : later.rule ≡ second
  pub has : Has earlier later

-- likewise, and these are their places, in either order
pub record HasOfPlaces (Has : Edge → Edge → Type 0) (edges : List Edge) (place other first second : ℕ) : Type 0 where
  pub both : HasOfRules Has edges first second
  pub places : ((both.i ≡ place) × (both.j ≡ other)) ⊎ ((both.i ≡ other) × (both.j ≡ place))

-- likewise, and one of them has this place
pub record HasOfPlace (Has : Edge → Edge → Type 0) (edges : List Edge) (place first second : ℕ) : Type 0 where
  pub both : HasOfRules Has edges first second
  pub one : (both.i ≡ place) ⊎ (both.j ≡ place)

-- two edges split into a pair that isn't listed, and they are not excused
abbrev pub MissUnexcused : Excused → List NumberPair → Edge → Edge → Type 0
MissUnexcused excused pairs x y = IsMissing pairs x.next x.cells y × (AreExcusedEdges excused.exchanged excused.accepted x y → ⊥)
