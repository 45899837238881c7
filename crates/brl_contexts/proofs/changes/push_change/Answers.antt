use Rattle.std.proofs.Common.{◌≡◌, ◌∙◌, ◌+◌, ◌++◌, ◌∷◌, ℕ, List, [], None, Option, Some, false, refl, slice_get, subst, sym, true}
use Rattle.brl_contexts.specs.Changes.{AreChangesTo, DoAscend, IsLeftPast, IsRepeated}
use Rattle.brl_contexts.specs.declared.changes.Change.{Change}
use Rattle.brl_contexts.proofs.ChangesLaws.{still_changes}
use Rattle.brl_contexts.proofs.Kept.{forms_kept}
use Rattle.brl_contexts.proofs.PushChange.{broken_changes, for_all, fresh_changes, repeated_changes, same_changes}
use Rattle.brl_contexts.proofs.Repeating.{do_ascend}
use Rattle.brl_contexts.proofs.changes.push_change.Goals as goal
use Rattle.brl_pairs.specs.declared.based.Past.{Past}
use Rattle.brl_pairs.specs.declared.based.Past.TheVariants.{More}
use Rattle.brl_pairs.specs.declared.step.Step.{Step}
use Rattle.brl_contexts.proofs.changes.push_change.Goals.{in-Broken, in-More, in-More-2}

pub returns-in-Same-clause-below : goal.returns-in-Same-clause-below
returns-in-Same-clause-below g c =
    let eq = g.B.State.PartialEq.eq in
    let m = g.B.Machine.behaviour c.args.machine.now in
    let h = g.B.Based.sharing c.args.machine.now in
    let old = c.args.named.now in
    let new = c.past_form.new.named in
    let names = c.in_ok-past.ensures.names in
    let shared = c.requires.shared in
    let s = shared.state in
    let base = shared.base in
    let k = c.args.form in
    let changes = c.args.changes.now.items in
    let at = names.states c.args.state s shared.at in
    for_all eq m h new c.args.state (k + 1) changes s base at shared.is_base
    (same_changes eq g.met.B.State.Key.same g.met.B.State.Eq.laws.refl m h c.start.ensures.laws c.law.ensures s base shared.is_base new c.args.forms.now
    (forms_kept m h old new names (m.steps base) c.args.forms.now shared.are_forms) c.in_ok-past.ensures.one_number k changes
    (still_changes eq h old s (m.steps base) new names k changes (c.requires.below s base shared.at shared.is_base)) c.in_ok-past.past (λ x x_at. c.in_ok-past.ensures.past s base x at shared.is_base x_at) c.in-Same.is)

pub is_repeated-requires-clause-ascending : goal.is_repeated-requires-clause-ascending
is_repeated-requires-clause-ascending g c =
    let m = g.B.Machine.behaviour c.args.machine.now in
    let h = g.B.Based.sharing c.args.machine.now in
    let shared = c.requires.shared in
    let below = c.requires.below shared.state shared.base shared.at shared.is_base in
    subst (DoAscend c.args.forms.now c.args.form) (sym c.as_slice.ensures.value)
    (do_ascend h c.args.named.now (m.steps shared.base) c.args.forms.now shared.are_forms (c.start.ensures.laws.in_order shared.base) c.args.form c.args.changes.now.items below.below below.ascending)

pub returns-clause-below : goal.returns-clause-below
returns-clause-below g c =
    let eq = g.B.State.PartialEq.eq in
    let m = g.B.Machine.behaviour c.args.machine.now in
    let h = g.B.Based.sharing c.args.machine.now in
    let old = c.args.named.now in
    let new = c.past_form.new.named in
    let names = c.in_ok-past.ensures.names in
    let shared = c.requires.shared in
    let s = shared.state in
    let base = shared.base in
    let k = c.args.form in
    let changes = c.args.changes.now.items in
    let at = names.states c.args.state s shared.at in
    let are = forms_kept m h old new names (m.steps base) c.args.forms.now shared.are_forms in
    let below = still_changes eq h old s (m.steps base) new names k changes (c.requires.below s base shared.at shared.is_base) in
    let left : (x : Step g.row.B-State.Denot) → slice_get (m.steps base) k ≡ Some x → IsLeftPast h new x (h.past s x.reads x.next) c.in_ok-past.past = λ x x_at. c.in_ok-past.ensures.past s base x at shared.is_base x_at in
    let pushed : (next : Option ℕ) → c.match-past.next ≡ next → c.push.new.self.items ≡ changes ++ record { form = k; next = next } ∷ [] = λ next is.
    c.in_ok-push.ensures.items ∙ (λ i. changes ++ record { form = c.in_ok-form.ensures i; next = is i } ∷ []) in
    elim c.match-past.branch [
      | in-Broken w ↦ subst (λ n. AreChangesTo eq m h n c.args.state (k + 1) c.push.new.self.items) (sym w.named-is) (subst (λ (l : List Change). AreChangesTo eq m h new c.args.state (k + 1) l) (sym (pushed None w.next-is))
          (for_all eq m h new c.args.state (k + 1) (changes ++ record { form = k; next = None } ∷ []) s base at shared.is_base
          (broken_changes eq g.met.B.State.Key.same g.met.B.State.Eq.laws.refl m h c.start.ensures.laws c.law.ensures s base shared.is_base new c.args.forms.now are c.in_ok-past.ensures.one_number k changes below c.in_ok-past.past left
          w.in-Broken.is)))
      | in-More w ↦ subst (λ n. AreChangesTo eq m h n c.args.state (k + 1) c.push.new.self.items) (sym w.named-is) (subst (λ (l : List Change). AreChangesTo eq m h new c.args.state (k + 1) l) (sym (pushed None w.next-is))
          (for_all eq m h new c.args.state (k + 1) (changes ++ record { form = k; next = None } ∷ []) s base at shared.is_base
          (repeated_changes eq g.met.B.State.Key.same g.met.B.State.Eq.laws.refl m h c.start.ensures.laws c.law.ensures s base shared.is_base new c.args.forms.now are c.in_ok-past.ensures.one_number k changes below c.in_ok-past.past left
          w.in-More.number w.in-More.is (subst (λ (l : List (List ℕ)). IsRepeated l c.args.forms.now k w.in-More.number changes) c.as_slice-cells.ensures.members
          (subst (IsRepeated c.as_slice-cells.result.now c.args.forms.now k w.in-More.number) w.as_slice.ensures.value (w.if-is_repeated.ensures.0 refl))))))
      | in-More-2 w ↦ subst (λ n. AreChangesTo eq m h n c.args.state (k + 1) c.push.new.self.items) (sym w.named-is) (subst (λ (l : List Change). AreChangesTo eq m h new c.args.state (k + 1) l) (sym (pushed (Some w.in-More-2.number) w.next-is))
          (for_all eq m h new c.args.state (k + 1) (changes ++ record { form = k; next = Some w.in-More-2.number } ∷ []) s base at shared.is_base
          (fresh_changes eq g.met.B.State.Key.same g.met.B.State.Eq.laws.refl m h c.start.ensures.laws c.law.ensures s base shared.is_base new c.args.forms.now are c.in_ok-past.ensures.one_number k changes below c.in_ok-past.past left
          w.in-More-2.number w.in-More-2.is (λ r.
          (let both : ◌≡◌ {A = Past ℕ} (More w.in-More-2.number) (More w.in-More.number) = sym w.in-More-2.is ∙ w.in-More.is in
          let numbers : w.in-More-2.number ≡ w.in-More.number = cc in
          let no : false ≡ true = w.if-is_repeated.ensures.1 (subst (IsRepeated c.as_slice-cells.result.now c.args.forms.now k w.in-More.number) (sym w.as_slice.ensures.value)
          (subst (λ (l : List (List ℕ)). IsRepeated l c.args.forms.now k w.in-More.number changes) (sym c.as_slice-cells.ensures.members) (subst (λ (n : ℕ). IsRepeated new.cells c.args.forms.now k n changes) numbers r))) in
          cc)))))
    ]
