-- The changes of all forms, group by group.
use Rattle.std.proofs.Common.{◌≡◌, ◌∙◌, ℕ, zero, suc, ◌+◌, ◌-◌, ◌<◌, ◌≤◌, Bool, true, false, List, [], Some, ap, arith, get_or, length, map, refl, slice_get, subst, sym}
use Rattle.std.proofs.lemmas.List.{length-map}
use Rattle.std.proofs.lemmas.Option.{get_or_from_slice_get, slice_get_within}
use Rattle.brl_contexts.specs.Changes.{AreChangesBelow, IsShared}
use Rattle.brl_contexts.specs.Forms.{AreForms}
use Rattle.brl_contexts.specs.Met.{AreBarsAt, AreMetByForm}
use Rattle.brl_contexts.specs.Named.{AreCarried, StillNames}
use Rattle.brl_contexts.specs.declared.changes.Change.{Change}
use Rattle.brl_contexts.specs.declared.forms.Forms.{Forms}
use Rattle.brl_contexts.specs.declared.met.Met.{Met}
use Rattle.brl_contexts.specs.declared.named.Named.{Named}
use Rattle.brl_contexts.proofs.ChangesLaws.{none_below, without_change}
use Rattle.brl_contexts.proofs.Groups.{bound_of, form_within, next_bound, none_between, none_first}
use Rattle.brl_contexts.proofs.Kept.{forms_kept}
use Rattle.brl_contexts.proofs.Steps.{untouched}
use Rattle.brl_pairs.specs.Based.{KeepsSharing, Sharing, meeting}
use Rattle.brl_pairs.specs.Order.{at as sequence_at}
use Rattle.brl_pairs.specs.Runs.{Behaviour, KeepsLaws}
use Rattle.brl_pairs.specs.declared.step.Step.{Step}
use Rattle.brl_pairs.proofs.Lists.{inside, mapped_at, read_at}

-- a state and its base stay where states and cells are added
abbrev pub still_shared : {S D : Type 0} (m : Behaviour S) (h : Sharing S D) (old new : Named S D) → StillNames old new → AreCarried h new → (number : ℕ) (forms : Forms)
    → IsShared m h old number forms → IsShared m h new number forms
still_shared m h old new names carried number forms shared = record {
  are_carried = carried;
  state = shared.state;
  base = shared.base;
  at = names.states number shared.state shared.at;
  is_base = shared.is_base;
  are_forms = forms_kept m h old new names (m.steps shared.base) forms shared.are_forms;
}

-- a form, by its number
module _ {S D : Type 0} (h : Sharing S D) (named : Named S D) (steps : List (Step S)) (forms : Forms) (are : AreForms h named steps forms) where
  pub many_reads : length forms.reads.items ≡ length forms.edges.items
  many_reads = ap length are.reads ∙ length-map steps (λ (x : Step S). x.reads) ∙ sym are.edges.count

  pub reads_of_form : (k : ℕ) (x : Step S) → slice_get steps k ≡ Some x → slice_get forms.reads.items k ≡ Some x.reads
  reads_of_form k x x_at = ap (λ (l : List (List ℕ)). slice_get l k) are.reads ∙ mapped_at (λ (y : Step S). y.reads) steps k x x_at

  -- whether a state opens its gate
  pub opens_form : (s : S) (opens : List Bool) → opens ≡ map (h.opens s) forms.gates.items → (k place : ℕ) (chars : List ℕ) → slice_get forms.reads.items k ≡ Some chars → slice_get forms.gate_of.items k ≡ Some place
      → slice_get opens place ≡ Some (h.opens s (h.gate chars))
  opens_form s opens is k place chars chars_at place_at =
      ap (λ (l : List Bool). slice_get l place) is ∙ mapped_at (h.opens s) forms.gates.items place (h.gate chars) (are.gates.each k chars place chars_at place_at)

module _ {S : Type 0} (eq : S → S → Bool) (same : (a b : S) → eq a b ≡ true → a ≡ b) (itself : (a : S) → eq a a ≡ true) {D : Type 0} (m : Behaviour S) (h : Sharing S D) (laws : KeepsLaws m) (keeps : KeepsSharing eq m h)
    (s base : S) (is_base : h.base s ≡ Some base) (named : Named S D) (forms : Forms) (are : AreForms h named (m.steps base) forms) where
  -- forms that no bar meets stay as they are
  pub skip : (n a : ℕ) (changes : List Change) → ((form : ℕ) → a ≤ form → form < a + n → meeting (h.bars s) (sequence_at forms.reads.items form) ≡ [])
      → AreChangesBelow eq h named s (m.steps base) a changes → AreChangesBelow eq h named s (m.steps base) (a + n) changes
  skip zero a changes none below = subst (λ k. AreChangesBelow eq h named s (m.steps base) k changes) (let e : a ≡ a + 0 = omega arith in e) below
  skip (suc n) a changes none below =
      let before = skip n a changes (λ form low high. none form low (omega (arith, high))) below in
      subst (λ k. AreChangesBelow eq h named s (m.steps base) k changes) (let e : a + n + 1 ≡ a + suc n = omega arith in e)
      (without_change eq h named s (m.steps base) (a + n) changes before (λ x x_at through.
      let reads : sequence_at forms.reads.items (a + n) ≡ x.reads = get_or_from_slice_get forms.reads.items (a + n) x.reads [] (reads_of_form h named (m.steps base) forms are (a + n) x x_at) in
      let free = keeps.free s x.next x.reads (ap (meeting (h.bars s)) (sym reads) ∙ none (a + n) (omega arith) (omega arith)) in
      (untouched eq same itself m h laws keeps s base is_base (a + n) x x_at through free, free)))

  pub skip_to : (a b : ℕ) (changes : List Change) → a ≤ b → ((form : ℕ) → a ≤ form → form < b → meeting (h.bars s) (sequence_at forms.reads.items form) ≡ [])
      → AreChangesBelow eq h named s (m.steps base) a changes → AreChangesBelow eq h named s (m.steps base) b changes
  skip_to a b changes le none below =
      let e : a + (b - a) ≡ b = omega (arith, le) in
      subst (λ k. AreChangesBelow eq h named s (m.steps base) k changes) e (skip (b - a) a changes (λ form low high. none form low (omega (arith, high, le))) below)

  -- a form whose gate is closed
  pub closed_change : (k : ℕ) (changes : List Change) → ((x : Step S) → slice_get (m.steps base) k ≡ Some x → h.opens s (h.gate x.reads) ≡ false)
      → AreChangesBelow eq h named s (m.steps base) k changes → AreChangesBelow eq h named s (m.steps base) (k + 1) changes
  closed_change k changes closed below =
      without_change eq h named s (m.steps base) k changes below (λ x x_at through. absurd (let wrong : true ≡ false = sym through ∙ closed x x_at in cc))

  module _ (met : List Met) (are_met : AreMetByForm (h.bars s) forms.reads.items met) where
    pub first_changes : AreChangesBelow eq h named s (m.steps base) (bound_of met 0 (length forms.reads.items)) []
    first_changes =
        skip_to 0 (bound_of met 0 (length forms.reads.items)) [] (omega arith) (λ form low high. none_first (h.bars s) forms.reads.items met are_met form high) (none_below eq h named s (m.steps base))

    pub next_changes : (from : ℕ) (bars : List ℕ) (here : AreBarsAt met from bars) (passed : (i : ℕ) (x : Met) → i < from → slice_get met i ≡ Some x → x.form < bound_of met from (length forms.reads.items))
        → (changes : List Change) → AreChangesBelow eq h named s (m.steps base) (here.form + 1) changes
        → AreChangesBelow eq h named s (m.steps base) (bound_of met (from + length bars) (length forms.reads.items)) changes
    next_changes from bars here passed changes below =
        let less = next_bound (h.bars s) forms.reads.items met are_met from bars here passed in
        skip_to (here.form + 1) (bound_of met (from + length bars) (length forms.reads.items)) changes (omega (arith, less))
        (λ form low high. none_between (h.bars s) forms.reads.items met are_met from bars here passed form (omega (arith, low)) high) below

-- the form of a group, and its gate
module _ {S D : Type 0} (h : Sharing S D) (named : Named S D) (steps : List (Step S)) (forms : Forms) (are : AreForms h named steps forms) (s : S) (opens : List Bool) (opens_are : opens ≡ map (h.opens s) forms.gates.items)
    (met : List Met) (are_met : AreMetByForm (h.bars s) forms.reads.items met) (from : ℕ) (less : from < length met) where
  abbrev pub form_at : ℕ
  form_at = (get_or met from (record { form = 0; bar = 0 })).form

  pub form_less : form_at < length forms.reads.items
  form_less =
      (let x = inside met from less in
      subst (λ (y : Met). y.form < length forms.reads.items) (sym (get_or_from_slice_get met from x.0 _ x.1)) (form_within (h.bars s) forms.reads.items met are_met from x.0 x.1))

  pub bound_is : bound_of met from (length forms.reads.items) ≡ form_at
  bound_is = (let x = inside met from less in ap (λ (y : Met). y.form) (get_or_from_slice_get met from x.0 _ x.1 ∙ sym (get_or_from_slice_get met from x.0 _ x.1)))

  module _ (place : ℕ) (place_is : place ≡ get_or forms.gate_of.items form_at place) where
    opens_at : slice_get opens place ≡ Some (h.opens s (h.gate (sequence_at forms.reads.items form_at)))
    opens_at =
        let chars = inside forms.reads.items form_at form_less in
        let count = are.gates.count in
        let place_at = read_at forms.gate_of.items forms.gate_of.items form_at place refl (omega (arith, count, form_less)) place_is in
        opens_form h named steps forms are s opens opens_are form_at place chars.0 chars.1 place_at
        ∙ ap (λ (l : List ℕ). Some (h.opens s (h.gate l))) (sym (get_or_from_slice_get forms.reads.items form_at chars.0 [] chars.1))

    pub place_less : place < length opens
    place_less = slice_get_within opens place _ opens_at

    pub opens_value : (b : Bool) → get_or opens place false ≡ b → h.opens s (h.gate (sequence_at forms.reads.items form_at)) ≡ b
    opens_value b is = sym (get_or_from_slice_get opens place (h.opens s (h.gate (sequence_at forms.reads.items form_at))) false opens_at) ∙ is
