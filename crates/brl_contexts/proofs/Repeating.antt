-- A form that gives a step which an earlier form gives.
use Rattle.std.proofs.Common.{◌≡◌, ◌∙◌, ℕ, ◌<◌, ◌≤◌, Bool, List, [], ◌∷◌, Option, None, Some, ap, arith, inl, inr, refl, slice_get, subst, sym, true}
use Rattle.std.proofs.lemmas.Bool.{cases_lt}
use Rattle.std.proofs.lemmas.Option.{get_or_from_slice_get, slice_get_within}
use Rattle.brl_contexts.specs.Changes.{AreAlike, AreChangesBelow, DoAscend, IsChanged, IsRepeated, change_of, own_step}
use Rattle.brl_contexts.specs.Forms.{AreForms}
use Rattle.brl_contexts.specs.declared.changes.Change.{Change}
use Rattle.brl_contexts.specs.declared.forms.Forms.{Forms}
use Rattle.brl_contexts.specs.declared.named.Named.{Named}
use Rattle.brl_contexts.proofs.ChangesLaws.{change_at, change_there}
use Rattle.brl_contexts.proofs.Steps.{any_before, first_before, from_own, into_before, longer_step, no_two, open_of}
use Rattle.brl_pairs.specs.Based.{KeepsSharing, Sharing, step_past}
use Rattle.brl_pairs.specs.Members.{HaveOneNumber}
use Rattle.brl_pairs.specs.Order.{at as sequence_at}
use Rattle.brl_pairs.specs.Runs.{Behaviour, IsInOrder, KeepsLaws}
use Rattle.brl_pairs.specs.Sorted.{or_none}
use Rattle.brl_pairs.specs.declared.based.Past.TheVariants.{More}
use Rattle.brl_pairs.specs.declared.edge.ListedEdge.{ListedEdge}
use Rattle.brl_pairs.specs.declared.step.Step.{Step}
use Rattle.brl_contexts.proofs.SameSteps.{alone}
use Rattle.brl_pairs.proofs.Listing.{IsIn}
use Rattle.brl_pairs.proofs.Lists.{inside, mapped_at, same_place}

module _ {S D : Type 0} (h : Sharing S D) (named : Named S D) (steps : List (Step S)) (forms : Forms) (are : AreForms h named steps forms) where
  edge_of : (k : ℕ) (x : Step S) → slice_get steps k ≡ Some x → (e : ListedEdge) × (slice_get forms.edges.items k ≡ Some e)
  edge_of k x at = (let within = slice_get_within steps k x at in let count = are.edges.count in inside forms.edges.items k (omega (arith, within, count)))

  step_of : (k : ℕ) (e : ListedEdge) → slice_get forms.edges.items k ≡ Some e → (x : Step S) × (slice_get steps k ≡ Some x)
  step_of k e at = (let within = slice_get_within forms.edges.items k e at in let count = are.edges.count in inside steps k (omega (arith, within, count)))

  reads_at : (k : ℕ) (x : Step S) → slice_get steps k ≡ Some x → sequence_at forms.reads.items k ≡ x.reads
  reads_at k x at = get_or_from_slice_get forms.reads.items k x.reads [] (ap (λ (l : List (List ℕ)). slice_get l k) are.reads ∙ mapped_at (λ (y : Step S). y.reads) steps k x at)

  -- steps that are alike, by numbers
  alike_steps : (j k : ℕ) (y x : Step S) → slice_get steps j ≡ Some y → slice_get steps k ≡ Some x → y.rule ≡ x.rule → y.cells ≡ x.cells → y.reads ≡ x.reads → AreAlike named.cells forms j k
  alike_steps j k y x y_at x_at rule cells reads =
      let d = edge_of j y y_at in
      let e = edge_of k x x_at in
      let d_is = are.edges.each j y d.0 y_at d.1 in
      let e_is = are.edges.each k x e.0 x_at e.1 in
      record {
        first = d.0;
        first_at = d.1;
        second = e.0;
        second_at = e.1;
        rule = d_is.rule ∙ rule ∙ sym e_is.rule;
        same_cells = ap or_none d_is.own_cells ∙ cells ∙ sym (ap or_none e_is.own_cells);
        reads = reads_at j y y_at ∙ reads ∙ sym (reads_at k x x_at);
      }

  same_steps : (j k : ℕ) (y x : Step S) → slice_get steps j ≡ Some y → slice_get steps k ≡ Some x → AreAlike named.cells forms j k → (y.rule ≡ x.rule) × (y.cells ≡ x.cells) × (y.reads ≡ x.reads)
  same_steps j k y x y_at x_at alike =
      let d_is = are.edges.each j y alike.first y_at alike.first_at in
      let e_is = are.edges.each k x alike.second x_at alike.second_at in
      (sym d_is.rule ∙ alike.rule ∙ e_is.rule, sym (ap or_none d_is.own_cells) ∙ alike.same_cells ∙ ap or_none e_is.own_cells, sym (reads_at j y y_at) ∙ alike.reads ∙ reads_at k x x_at)

  -- rules ascend along forms
  pub rules_ascend : IsInOrder steps → (j k : ℕ) (d e : ListedEdge) → j ≤ k → slice_get forms.edges.items j ≡ Some d → slice_get forms.edges.items k ≡ Some e → d.rule ≤ e.rule
  rules_ascend in_order j k d e le d_at e_at =
      let y = step_of j d d_at in
      let x = step_of k e e_at in
      let d_is = (are.edges.each j y.0 d y.1 d_at).rule in
      let e_is = (are.edges.each k x.0 e x.1 e_at).rule in
      elim (cases_lt j k) [
        | inl less ↦ (let up = (in_order j k y.0 x.0 less y.1 x.1).ascend in omega (arith, d_is, e_is, up))
        | inr end ↦ (let is : j ≡ k = omega (arith, le, end) in let one = ap (λ (f : ListedEdge). f.rule) (same_place forms.edges.items k d e (ap (slice_get forms.edges.items) (sym is) ∙ d_at) e_at) in omega (arith, one))
      ]

  pub do_ascend : IsInOrder steps → (k : ℕ) (changes : List Change) → ((i : ℕ) (c : Change) → slice_get changes i ≡ Some c → c.form < k)
      → ((i j : ℕ) (c d : Change) → i < j → slice_get changes i ≡ Some c → slice_get changes j ≡ Some d → c.form < d.form) → DoAscend forms k changes
  do_ascend in_order k changes below ascending = record {
    within = below;
    rules = λ i j c d e f le c_at d_at e_at f_at. elim (cases_lt i j) [
      | inl less ↦ (let up = ascending i j c d less c_at d_at in rules_ascend in_order c.form d.form e f (omega (arith, up)) e_at f_at)
      | inr end ↦ (
          let is : i ≡ j = omega (arith, le, end) in
          let one = ap (λ (b : Change). b.form) (same_place changes j c d (ap (slice_get changes) (sym is) ∙ c_at) d_at) in
          rules_ascend in_order c.form d.form e f (omega (arith, one)) e_at f_at)
    ];
    own = λ i c e f c_at e_at f_at. (let less = below i c c_at in rules_ascend in_order c.form k e f (omega (arith, less)) e_at f_at);
  }

-- ---- Repeated

module _ {S : Type 0} (eq : S → S → Bool) (same : (a b : S) → eq a b ≡ true → a ≡ b) (itself : (a : S) → eq a a ≡ true) {D : Type 0} (m : Behaviour S) (h : Sharing S D) (laws : KeepsLaws m) (keeps : KeepsSharing eq m h)
    (s base : S) (is_base : h.base s ≡ Some base) (named : Named S D) (forms : Forms) (are : AreForms h named (m.steps base) forms) (one : HaveOneNumber named.states)
    (k : ℕ) (x : Step S) (more : D) (at : slice_get (m.steps base) k ≡ Some x) (through : h.opens s (h.gate x.reads) ≡ true) (is : h.past s x.reads x.next ≡ More more)
    (number : ℕ) (number_at : slice_get named.states number ≡ Some (h.owing x.next more)) (changes : List Change) (below : AreChangesBelow eq h named s (m.steps base) k changes) where
  abbrev z : Step S
  z = record x { next = h.owing x.next more }

  x_is : step_past h s x ≡ z ∷ []
  x_is = longer_step eq same itself m h laws keeps s base is_base k x more at through is

  -- by the first form that gives it
  by_first : (j : ℕ) (y : Step S) → j < k → slice_get (m.steps base) j ≡ Some y → IsIn z (own_step h s (m.steps base) eq j y) → IsIn z (step_past h s y)
      → (o : Option (Option ℕ)) → change_of changes j ≡ o → IsChanged h s named y o (own_step h s (m.steps base) eq j y) → IsRepeated named.cells forms k number changes
  by_first j y less y_at first own None e changed =
      absurd (no_two eq same itself m h laws keeps s base is_base j k y x z less y_at at (alone h s y z own) x_is (inr changed.1))
  by_first j y less y_at first own (Some None) e changed = absurd (subst (IsIn z) changed first)
  by_first j y less y_at first own (Some (Some n)) e changed =
      let next = changed.0 in
      let z_is : z ≡ record y { next = next } = elim (subst (IsIn z) changed.2 first) [ inl here ↦ here | inr none ↦ absurd none ] in
      let c = change_there changes j (Some n) e in
      let owing : h.owing x.next more ≡ next = ap (λ (w : Step S). w.next) z_is in
      let numbers : n ≡ number = one n number next changed.1 (number_at ∙ ap Some owing) in
      record {
        place = c.0;
        change = c.1;
        there = c.2;
        leads = c.4 ∙ ap Some numbers;
        alike = subst (λ (f : ℕ). AreAlike named.cells forms f k) (sym c.3)
            (alike_steps h named (m.steps base) forms are j k y x y_at at (sym (ap (λ (w : Step S). w.rule) z_is)) (sym (ap (λ (w : Step S). w.cells) z_is)) (sym (ap (λ (w : Step S). w.reads) z_is)));
      }

  pub is_there : any_before eq same itself m h laws keeps s base is_base k z ≡ true → IsRepeated named.cells forms k number changes
  is_there there =
      let f = first_before eq same itself m h laws keeps s base is_base k z (let within = slice_get_within (m.steps base) k x at in omega (arith, within)) there in
      let own = from_own eq same itself m h laws keeps s base is_base f.0 f.1 z f.4 in
      by_first f.0 f.1 f.2 f.3 f.4 own (change_of changes f.0) refl (below.each f.0 f.1 f.3 f.2 (open_of eq same itself m h laws keeps s base is_base f.1 z own))

  pub was_there : IsRepeated named.cells forms k number changes → any_before eq same itself m h laws keeps s base is_base k z ≡ true
  was_there r =
      let j = r.change.form in
      let less = below.below r.place r.change r.there in
      let within = slice_get_within (m.steps base) k x at in
      let y = inside (m.steps base) j (omega (arith, less, within)) in
      let alike = same_steps h named (m.steps base) forms are j k y.0 x y.1 at r.alike in
      let y_open : h.opens s (h.gate y.0.reads) ≡ true = ap (λ (l : List ℕ). h.opens s (h.gate l)) alike.2 ∙ through in
      let changed = subst (λ o. IsChanged h s named y.0 o (own_step h s (m.steps base) eq j y.0)) (change_at changes j r.place r.change below.ascending r.there refl ∙ ap Some r.leads) (below.each j y.0 y.1 less y_open) in
      let next : changed.0 ≡ h.owing x.next more = same_place named.states number changed.0 (h.owing x.next more) changed.1 number_at in
      let z_is : z ≡ record y.0 { next = changed.0 } = λ i. record { rule = sym alike.0 i; reads = sym alike.2 i; cells = sym alike.1 i; next = sym next i } in
      into_before eq same itself m h laws keeps s base is_base j k y.0 z less y.1 (from_own eq same itself m h laws keeps s base is_base j y.0 z (subst (IsIn z) (sym changed.2) (inl z_is)))
