-- Contexts, and the steps of states by them. The project's own choice.
use Rattle.std.specs.Prelude.{◌≡◌, ℕ, ◌<◌, false, List, [], ◌∷◌, Option, None, Some, flat_map, get_or, if◌then◌else◌, length, slice_get}
use Rattle.std.specs.List.{range_with_len}
use Rattle.brl_contexts.specs.Changes.{change_of}
use Rattle.brl_contexts.specs.Forms.{AreForms}
use Rattle.brl_contexts.specs.Named.{AreCarried, StillNames, Stays}
use Rattle.brl_contexts.specs.declared.changes.Change.{Change}
use Rattle.brl_contexts.specs.declared.contexts.ByContext.{ByContext}
use Rattle.brl_contexts.specs.declared.contexts.Contexts.{Contexts}
use Rattle.brl_contexts.specs.declared.contexts.Expanded.{Expanded}
use Rattle.brl_contexts.specs.declared.contexts.Expanded.TheVariants as steps
use Rattle.brl_contexts.specs.declared.forms.Forms.{Forms}
use Rattle.brl_pairs.specs.Based.{Sharing}
use Rattle.brl_pairs.specs.Listed.{AreListedEdges}
use Rattle.brl_pairs.specs.Runs.{Behaviour}
use Rattle.brl_pairs.specs.declared.edge.ListedEdge.{ListedEdge}

-- ---- Contexts

-- no states, no cells, no contexts, and nothing is kept of more that is due
pub record IsEmpty {S D : Type 0} (contexts : Contexts S D) : Type 0 where
  pub states : contexts.named.states ≡ []
  pub cells : contexts.named.cells ≡ []
  pub carried : contexts.named.carried ≡ []
  pub owing : contexts.named.owing.items ≡ []
  pub bases : contexts.bases ≡ []
  pub forms : contexts.forms.items ≡ []

-- each base has its forms, and what is kept of more that is due is right
pub record AreContexts {S D : Type 0} (m : Behaviour S) (h : Sharing S D) (contexts : Contexts S D) : Type 0 where
  pub count : length contexts.forms.items ≡ length contexts.bases
  pub each : (number : ℕ) (base : S) (forms : Forms) → slice_get contexts.bases number ≡ Some base → slice_get contexts.forms.items number ≡ Some forms
      → AreForms h contexts.named (m.steps base) forms
  pub are_carried : AreCarried h contexts.named

-- what had a number has it still, and contexts keep their forms
pub record StillKnows {S D : Type 0} (old new : Contexts S D) : Type 0 where
  pub names : StillNames old.named new.named
  pub bases : Stays old.bases new.bases
  pub forms : Stays old.forms.items new.forms.items

-- the state with this number has the base of the context with that one
pub record HasContext {S D : Type 0} (h : Sharing S D) (contexts : Contexts S D) (context number : ℕ) : Type 0 where
  pub state : S
  pub base : S
  pub at : slice_get contexts.named.states number ≡ Some state
  pub is_base : h.base state ≡ Some base
  pub context_at : slice_get contexts.bases context ≡ Some base

-- ---- Steps by contexts

-- a form that is changed so, or left as it is
abbrev pub changed : ListedEdge → Option (Option ℕ) → List ListedEdge
changed e None = e ∷ []
changed e (Some None) = []
changed e (Some (Some next)) = record e { next = next } ∷ []

-- an edge of rule 0; where the forms end
abbrev pub no_edge : ListedEdge
no_edge = record { rule = 0; cells = 0; next = 0 }

-- what a state has of a form
abbrev pub edge_in : Forms → ByContext → ℕ → List ListedEdge
edge_in forms own form =
    if get_or own.opens.items (get_or forms.gate_of.items form 0) false then changed (get_or forms.edges.items form no_edge) (change_of own.changes.items form) else []

-- what it has of all forms, in their order
abbrev pub edges_in : Forms → ByContext → List ListedEdge
edges_in forms own = flat_map (edge_in forms own) (range_with_len 0 (length forms.edges.items))

-- what it has of the forms of a context, which may not be there
abbrev pub edges_of : Option Forms → ByContext → List ListedEdge
edges_of None own = []
edges_of (Some forms) own = edges_in forms own

-- the steps of an expanded state, by numbers
abbrev pub edges_by : {S D : Type 0} → Contexts S D → Expanded → List ListedEdge
edges_by contexts (steps.ByContext own) = edges_of (slice_get contexts.forms.items own.context) own
edges_by contexts (steps.Own edges) = edges.items

-- ---- What may be asked

-- what a state says of forms is of these forms
pub record IsWithinForms (forms : Forms) (own : ByContext) : Type 0 where
  pub gates : length forms.gate_of.items ≡ length forms.edges.items
  pub opens : (form place : ℕ) → slice_get forms.gate_of.items form ≡ Some place → place < length own.opens.items
  pub ascending : (i j : ℕ) (c d : Change) → i < j → slice_get own.changes.items i ≡ Some c → slice_get own.changes.items j ≡ Some d → c.form < d.form
  pub below : (i : ℕ) (c : Change) → slice_get own.changes.items i ≡ Some c → c.form < length forms.edges.items

-- the context is there
abbrev pub IsWithin : {S D : Type 0} → Contexts S D → Expanded → Type 0
IsWithin contexts (steps.ByContext own) = (forms : Forms) × (slice_get contexts.forms.items own.context ≡ Some forms) × IsWithinForms forms own
IsWithin contexts (steps.Own edges) = Unit {0}

-- these are the steps of the state with this number
pub record AreEdgesAt {S D : Type 0} (m : Behaviour S) (contexts : Contexts S D) (number : ℕ) (expanded : Expanded) : Type 0 where
  pub within : IsWithin contexts expanded
  pub state : S
  pub at : slice_get contexts.named.states number ≡ Some state
  pub edges : AreListedEdges contexts.named.states contexts.named.cells (m.steps state) (edges_by contexts expanded)

-- the change at a place, if it is of this form
abbrev pub IsChangeAt : List Change → ℕ → ℕ → Option Change → Type 0
IsChangeAt changes place form None = (c : Change) → slice_get changes place ≡ Some c → c.form ≡ form → ⊥
IsChangeAt changes place form (Some change) = (slice_get changes place ≡ Some change) × (change.form ≡ form)
