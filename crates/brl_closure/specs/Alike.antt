-- Internal. The edges of a state that decide which pairs are missing: the first two of each kind.
-- Two edges of one kind have the same cells and the same next state, and their rule is the same or
-- has nothing to do with what is excused.
use Rattle.std.specs.Prelude.{◌≡◌, ◌++◌, ◌∷◌, [], ℕ, ◌<◌, ◌⊎◌, ◌||◌, Bool, true, false, if◌then◌else◌, List, length, Option, Some, None, slice_get}
use Rattle.brl_pairs.specs.Members.{IsMember}
use Rattle.brl_closure.specs.declared.check.kinds.Kind.{Kind as NumberKind}
use Rattle.brl_pairs.specs.Edges.{AreEdges}
use Rattle.brl_pairs.specs.Excused.{names_rule}
use Rattle.brl_pairs.specs.Sorted.{or_none}
use Rattle.brl_pairs.specs.declared.edge.Edge.{Edge}
use Rattle.brl_pairs.specs.declared.edge.ListedEdge.{ListedEdge}
use Rattle.brl_pairs.specs.declared.excused.Excused.{Excused}
use Rattle.brl_pairs.specs.Runs.{Behaviour}

-- a next state, by its number, cells, and a rule where one counts
pub record Kind : Type 0 where
  pub next : ℕ
  pub cells : List ℕ
  pub rule : Option ℕ

-- the rule where a pair of what is excused has it
abbrev pub named_rule : Excused → ℕ → Option ℕ
named_rule excused rule = if names_rule excused.accepted rule || names_rule excused.exchanged rule then Some rule else None

-- the kind of an edge
abbrev pub kind_of : Excused → Edge → Kind
kind_of excused x = record { next = x.next; cells = x.cells; rule = named_rule excused x.rule }

-- the kind of an edge by the number of its cells
abbrev pub number_kind : Excused → ListedEdge → NumberKind
number_kind excused e = record { next = e.next; cells = e.cells; rule = named_rule excused e.rule }

-- a kind with its cells in place of their number
abbrev pub kind_with : List (List ℕ) → NumberKind → Kind
kind_with cells kind = record { next = kind.next; cells = or_none (slice_get cells kind.cells); rule = kind.rule }

-- the edge at this place is of this kind
pub record IsOfKind (excused : Excused) (edges : List Edge) (kind : Kind) (place : ℕ) : Type 0 where
  pub edge : Edge
  pub at : slice_get edges place ≡ Some edge
  pub has_kind : kind_of excused edge ≡ kind

-- the edges at two places are of this kind
pub record HasTwo (excused : Excused) (edges : List Edge) (kind : Kind) : Type 0 where
  pub first : ℕ
  pub second : ℕ
  pub in_order : first < second
  pub first_is : IsOfKind excused edges kind first
  pub second_is : IsOfKind excused edges kind second

-- A kind is counted: it becomes the last of those that are there once, or where it is there already
-- of those that are there twice, if it isn't there either. The answer says whether it was added.
abbrev pub IsCounted : {K : Type 0} → K → List K → List K → List K → List K → Bool → Type 0
IsCounted kind once twice once' twice' added =
    ((added ≡ true) × (once' ≡ once ++ kind ∷ []) × (twice' ≡ twice))
    ⊎ (((added ≡ true) × IsMember once kind × (once' ≡ once) × (twice' ≡ twice ++ kind ∷ []))
    ⊎ ((added ≡ false) × IsMember twice kind × (once' ≡ once) × (twice' ≡ twice)))

-- The kept edges are these edges in their order, and each edge that isn't kept has two kept ones of
-- its kind before it.
pub record AreFirstTwo (excused : Excused) (edges kept : List Edge) : Type 0 where
  -- the place of each kept edge among the edges
  pub origin : ℕ → ℕ
  pub same : (place : ℕ) (x : Edge) → slice_get kept place ≡ Some x → slice_get edges (origin place) ≡ Some x
  pub ascend : (i j : ℕ) → i < j → j < length kept → origin i < origin j
  -- each edge is kept, or two of its kind before it are
  pub each : (place : ℕ) (x : Edge) → slice_get edges place ≡ Some x
      → ((k : ℕ) × (slice_get kept k ≡ Some x) × (origin k ≡ place)) ⊎ ((two : HasTwo excused kept (kind_of excused x)) × (origin two.second < place))

-- these are the first two of each kind, and maybe more, of the edges of the state with this number
pub record AreFirstTwoAt {S : Type 0} (m : Behaviour S) (excused : Excused) (states : List S) (number : ℕ) (kept : List Edge) : Type 0 where
  pub edges : List Edge
  pub are_edges : AreEdges m states number edges
  pub first_two : AreFirstTwo excused edges kept
