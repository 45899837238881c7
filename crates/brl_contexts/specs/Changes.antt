-- What a state changes of the forms of its base. The project's own choice.
use Rattle.std.specs.Prelude.{◌≡◌, ℕ, ◌<◌, ◌≤◌, Bool, not, true, List, [], ◌∷◌, ◌==◌, filter, flat_map, if◌then◌else◌, map, Option, None, Some, slice_get, take}
use Rattle.std.specs.List.{list_any}
use Rattle.brl_contexts.specs.Forms.{AreForms}
use Rattle.brl_contexts.specs.Named.{AreCarried}
use Rattle.brl_contexts.specs.declared.changes.Change.{Change}
use Rattle.brl_contexts.specs.declared.forms.Forms.{Forms}
use Rattle.brl_contexts.specs.declared.named.Named.{Named}
use Rattle.brl_pairs.specs.Based.{Sharing, is_same, meeting, step_past}
use Rattle.brl_pairs.specs.Order.{at}
use Rattle.brl_pairs.specs.Runs.{Behaviour}
use Rattle.brl_pairs.specs.Sorted.{or_none}
use Rattle.brl_pairs.specs.declared.based.Past.{Past}
use Rattle.brl_pairs.specs.declared.based.Past.TheVariants.{Broken, Same, More}
use Rattle.brl_pairs.specs.declared.edge.ListedEdge.{ListedEdge}
use Rattle.brl_pairs.specs.declared.step.Step.{Step}

-- ---- A state and its base

-- the state with this number has a base, and these are its forms; what is kept of more that is due
-- is right
pub record IsShared {S D : Type 0} (m : Behaviour S) (h : Sharing S D) (named : Named S D) (number : ℕ) (forms : Forms) : Type 0 where
  pub state : S
  pub base : S
  pub at : slice_get named.states number ≡ Some state
  pub is_base : h.base state ≡ Some base
  pub are_forms : AreForms h named (m.steps base) forms
  pub are_carried : AreCarried h named

-- these are the numbers of the state's bars that meet what the form reads
abbrev pub AreMeeting : {S D : Type 0} → Sharing S D → Named S D → ℕ → Forms → ℕ → List ℕ → Type 0
AreMeeting {S} h named number forms form bars = (s : S) → slice_get named.states number ≡ Some s → bars ≡ meeting (h.bars s) (at forms.reads.items form)

-- of each gate of the forms, whether the state opens it
abbrev pub AreOpened : {S D : Type 0} → Sharing S D → Named S D → ℕ → Forms → List Bool → Type 0
AreOpened {S} h named number forms opens = (s : S) → slice_get named.states number ≡ Some s → opens ≡ map (h.opens s) forms.gates.items

-- the state with this number opens the form's gate
abbrev pub IsOpened : {S D : Type 0} → Sharing S D → Named S D → ℕ → Forms → ℕ → Type 0
IsOpened {S} h named number forms form = (s : S) → slice_get named.states number ≡ Some s → h.opens s (h.gate (at forms.reads.items form)) ≡ true

-- ---- What a state has of a form

module _ {S D : Type 0} (h : Sharing S D) (s : S) (steps : List (Step S)) where
  -- what the state has of the first steps of its base, this many
  abbrev pub before : ℕ → List (Step S)
  before form = flat_map (step_past h s) (take form steps)

  -- what it has of a form, but for a step that it has of an earlier one
  abbrev pub own_step : (S → S → Bool) → ℕ → Step S → List (Step S)
  own_step eq form x = filter (λ z. not (list_any (is_same eq z) (before form))) (step_past h s x)

-- what the bars leave past the form, where what is more due is given by the number of the state to
-- which the form leads then
abbrev pub IsLeftPast : {S D : Type 0} → Sharing S D → Named S D → Step S → Past D → Past ℕ → Type 0
IsLeftPast h named x Broken past = past ≡ Broken
IsLeftPast h named x Same past = past ≡ Same
IsLeftPast h named x (More more) past = (number : ℕ) × (past ≡ More number) × (slice_get named.states number ≡ Some (h.owing x.next more))

-- that of the form of the state with this number
abbrev pub IsPastForm : {S D : Type 0} → Behaviour S → Sharing S D → Named S D → ℕ → Forms → ℕ → Past ℕ → Type 0
IsPastForm {S} m h named number forms form past =
    (s base : S) (x : Step S) → slice_get named.states number ≡ Some s → h.base s ≡ Some base → slice_get (m.steps base) form ≡ Some x
    → IsLeftPast h named x (h.past s x.reads x.next) past

-- ---- Changes

-- what a state changes of a form, if it changes it
abbrev pub change_of : List Change → ℕ → Option (Option ℕ)
change_of [] form = None
change_of (c ∷ changes) form = if c.form == form then Some c.next else change_of changes form

-- what a state has of a step of its base, by what it changes of it
abbrev pub IsChanged : {S D : Type 0} → Sharing S D → S → Named S D → Step S → Option (Option ℕ) → List (Step S) → Type 0
IsChanged h s named x None own = (own ≡ x ∷ []) × (h.past s x.reads x.next ≡ Same)
IsChanged h s named x (Some None) own = own ≡ []
IsChanged {S} h s named x (Some (Some number)) own = (next : S) × (slice_get named.states number ≡ Some next) × (own ≡ record x { next = next } ∷ [])

-- the changes are of ascending forms below a number, and right for each form below it whose gate
-- the state opens
pub record AreChangesBelow {S D : Type 0} (eq : S → S → Bool) (h : Sharing S D) (named : Named S D) (s : S) (steps : List (Step S)) (end : ℕ) (changes : List Change) : Type 0 where
  pub ascending : (i j : ℕ) (c d : Change) → i < j → slice_get changes i ≡ Some c → slice_get changes j ≡ Some d → c.form < d.form
  pub below : (i : ℕ) (c : Change) → slice_get changes i ≡ Some c → c.form < end
  pub each : (form : ℕ) (x : Step S) → slice_get steps form ≡ Some x → form < end → h.opens s (h.gate x.reads) ≡ true
      → IsChanged h s named x (change_of changes form) (own_step h s steps eq form x)

-- they are what the state with this number changes of the forms below a number
abbrev pub AreChangesTo : {S D : Type 0} → (S → S → Bool) → Behaviour S → Sharing S D → Named S D → ℕ → ℕ → List Change → Type 0
AreChangesTo {S} eq m h named number end changes =
    (s base : S) → slice_get named.states number ≡ Some s → h.base s ≡ Some base → AreChangesBelow eq h named s (m.steps base) end changes

-- ---- The same step twice

-- the changes are of forms before this one, and their rules ascend to its rule
pub record DoAscend (forms : Forms) (form : ℕ) (changes : List Change) : Type 0 where
  pub within : (i : ℕ) (c : Change) → slice_get changes i ≡ Some c → c.form < form
  pub rules : (i j : ℕ) (c d : Change) (e f : ListedEdge) → i ≤ j → slice_get changes i ≡ Some c → slice_get changes j ≡ Some d
      → slice_get forms.edges.items c.form ≡ Some e → slice_get forms.edges.items d.form ≡ Some f → e.rule ≤ f.rule
  pub own : (i : ℕ) (c : Change) (e f : ListedEdge) → slice_get changes i ≡ Some c → slice_get forms.edges.items c.form ≡ Some e → slice_get forms.edges.items form ≡ Some f → e.rule ≤ f.rule

-- two forms are of one rule, give the same cells, and read the same characters
pub record AreAlike (cells : List (List ℕ)) (forms : Forms) (one other : ℕ) : Type 0 where
  pub first : ListedEdge
  pub first_at : slice_get forms.edges.items one ≡ Some first
  pub second : ListedEdge
  pub second_at : slice_get forms.edges.items other ≡ Some second
  pub rule : first.rule ≡ second.rule
  pub same_cells : or_none (slice_get cells first.cells) ≡ or_none (slice_get cells second.cells)
  pub reads : at forms.reads.items one ≡ at forms.reads.items other

-- one of the changes leads to this state, and is of a form that is like this one
pub record IsRepeated (cells : List (List ℕ)) (forms : Forms) (form next : ℕ) (changes : List Change) : Type 0 where
  pub place : ℕ
  pub change : Change
  pub there : slice_get changes place ≡ Some change
  pub leads : change.next ≡ Some next
  pub alike : AreAlike cells forms change.form form
