-- Changes form by form.
use Rattle.std.proofs.Common.{◌≡◌, ◌≢◌, ◌∙◌, ℕ, zero, suc, ◌+◌, ◌<◌, Bool, true, false, List, [], ◌∷◌, ◌++◌, Option, None, Some, ap, arith, cond, inl, inr, nat_eq, refl, slice_get, subst, sym}
use Rattle.std.proofs.lemmas.Bool.{cases_eq}
use Rattle.std.proofs.lemmas.Bool.Decides.{eqb_tells}
use Rattle.std.proofs.lemmas.Option.{slice_get_within}
use Rattle.std.specs.Cmp.{nat_eq_equiv}
use Rattle.brl_contexts.specs.Changes.{AreChangesBelow, IsChanged, change_of, own_step}
use Rattle.brl_contexts.specs.Named.{StillNames}
use Rattle.brl_contexts.specs.declared.changes.Change.{Change}
use Rattle.brl_contexts.specs.declared.named.Named.{Named}
use Rattle.brl_pairs.specs.Based.{Sharing}
use Rattle.brl_pairs.specs.declared.step.Step.{Step}
use Rattle.brl_pairs.proofs.Lists.{push_cases}

-- ---- The change of a form

eqb-same : (a : ℕ) → nat_eq a a ≡ true
eqb-same a = nat_eq_equiv.refl a

-- no change of a form that none is of
pub no_change : (changes : List Change) (form : ℕ) → ((i : ℕ) (c : Change) → slice_get changes i ≡ Some c → c.form ≢ form) → change_of changes form ≡ None
no_change [] form none = refl
no_change (c ∷ changes) form none = elim (eqb_tells c.form form) [
  | inl same ↦ absurd (none 0 c refl same.1)
  | inr other ↦ ap (λ b. cond b (Some c.next) (change_of changes form)) other.0 ∙ no_change changes form (λ i d at. none (suc i) d at)
]

-- that of a form that has one
pub change_at : (changes : List Change) (form i : ℕ) (c : Change) → ((j k : ℕ) (d e : Change) → j < k → slice_get changes j ≡ Some d → slice_get changes k ≡ Some e → d.form < e.form)
    → slice_get changes i ≡ Some c → c.form ≡ form → change_of changes form ≡ Some c.next
change_at [] form i c up at is = cc
change_at (d ∷ changes) form zero c up at is =
    (let same : d ≡ c = cc in
    ap (λ b. cond b (Some d.next) (change_of changes form)) (ap (λ (e : Change). nat_eq e.form form) same ∙ ap (λ n. nat_eq n form) is ∙ eqb-same form) ∙ ap (λ (e : Change). Some e.next) same)
change_at (d ∷ changes) form (suc i) c up at is = elim (eqb_tells d.form form) [
  | inl same ↦ absurd (let less = up 0 (suc i) d c (omega arith) refl at in let one = same.1 in omega (arith, less, one, is))
  | inr other ↦
      ap (λ b. cond b (Some d.next) (change_of changes form)) other.0
      ∙ change_at changes form i c (λ j k a b less a_at b_at. up (suc j) (suc k) a b (omega (arith, less)) a_at b_at) at is
]

-- and where it is
pub change_there : (changes : List Change) (form : ℕ) (next : Option ℕ) → change_of changes form ≡ Some next → (i : ℕ) × (c : Change) × (slice_get changes i ≡ Some c) × (c.form ≡ form) × (c.next ≡ next)
change_there [] form next is = cc
change_there (c ∷ changes) form next is = elim (eqb_tells c.form form) [
  | inl same ↦ (let e = sym (ap (λ b. cond b (Some c.next) (change_of changes form)) same.0) ∙ is in (0, c, refl, same.1, (let own : c.next ≡ next = cc in own)))
  | inr other ↦
      (let e = sym (ap (λ b. cond b (Some c.next) (change_of changes form)) other.0) ∙ is in
      let w = change_there changes form next e in (suc w.0, w.1, w.2, w.3, w.4))
]

-- one more change, of a later form
module _ (changes : List Change) (c : Change) (later : (i : ℕ) (d : Change) → slice_get changes i ≡ Some d → d.form < c.form) where
  pub own_change : change_of (changes ++ c ∷ []) c.form ≡ Some c.next
  own_change = by changes later
    where
      by : (some : List Change) → ((i : ℕ) (d : Change) → slice_get some i ≡ Some d → d.form < c.form) → change_of (some ++ c ∷ []) c.form ≡ Some c.next
      by [] late = ap (λ b. cond b (Some c.next) None) (eqb-same c.form)
      by (d ∷ some) late =
          (let other : nat_eq d.form c.form ≡ false = elim (eqb_tells d.form c.form) [ inl same ↦ absurd (let less = late 0 d refl in let one = same.1 in omega (arith, less, one)) | inr differ ↦ differ.0 ] in
          ap (λ b. cond b (Some d.next) (change_of (some ++ c ∷ []) c.form)) other ∙ by some (λ i e at. late (suc i) e at))

  pub other_change : (form : ℕ) → form ≢ c.form → change_of (changes ++ c ∷ []) form ≡ change_of changes form
  other_change form differ = by changes
    where
      by : (some : List Change) → change_of (some ++ c ∷ []) form ≡ change_of some form
      by [] = elim (eqb_tells c.form form) [ inl same ↦ absurd (differ (sym same.1)) | inr other ↦ ap (λ b. cond b (Some c.next) None) other.0 ]
      by (d ∷ some) = ap (λ l. cond (nat_eq d.form form) (Some d.next) l) (by some)

-- ---- One form more

module _ {S D : Type 0} (eq : S → S → Bool) (h : Sharing S D) (named : Named S D) (s : S) (steps : List (Step S)) where
  -- what is named still
  pub still_changes : (new : Named S D) → StillNames named new → (end : ℕ) (changes : List Change) → AreChangesBelow eq h named s steps end changes → AreChangesBelow eq h new s steps end changes
  still_changes new names end changes are = record {
    ascending = are.ascending;
    below = are.below;
    each = λ form x at less through. still (change_of changes form) x (own_step h s steps eq form x) (are.each form x at less through);
  }
    where
      still : (o : Option (Option ℕ)) (x : Step S) (own : List (Step S)) → IsChanged h s named x o own → IsChanged h s new x o own
      still None x own is = is
      still (Some None) x own is = is
      still (Some (Some number)) x own is = (is.0, names.states number is.0 is.1, is.2)

  -- nothing is changed of forms below none
  pub none_below : AreChangesBelow eq h named s steps 0 []
  none_below = record { ascending = λ i j c d less at there. cc; below = λ i c at. cc; each = λ form x at less through. absurd (omega (arith, less)) }

  module _ (end : ℕ) (changes : List Change) (are : AreChangesBelow eq h named s steps end changes) where
    -- a form that is left as it is
    pub without_change : ((x : Step S) → slice_get steps end ≡ Some x → h.opens s (h.gate x.reads) ≡ true → IsChanged h s named x None (own_step h s steps eq end x))
        → AreChangesBelow eq h named s steps (end + 1) changes
    without_change own = record {
      ascending = are.ascending;
      below = λ i c at. (let less = are.below i c at in omega (arith, less));
      each = λ form x at less through. elim (cases_eq form end) [
        | inl is ↦ subst (λ k. slice_get steps k ≡ Some x → IsChanged h s named x (change_of changes k) (own_step h s steps eq k x)) (sym is)
            (λ here. subst (λ o. IsChanged h s named x o (own_step h s steps eq end x)) (sym (no_change changes end (λ i c there same. let below = are.below i c there in omega (arith, below, same)))) (own x here through)) at
        | inr other ↦ are.each form x at (omega (arith, less, other)) through
      ];
    }

    -- a form that is changed
    pub with_change : (next : Option ℕ) → ((x : Step S) → slice_get steps end ≡ Some x → h.opens s (h.gate x.reads) ≡ true → IsChanged h s named x (Some next) (own_step h s steps eq end x))
        → AreChangesBelow eq h named s steps (end + 1) (changes ++ record { form = end; next = next } ∷ [])
    with_change next own =
        let c : Change = record { form = end; next = next } in
        let later = are.below in
        record {
          ascending = λ i j a b less a_at b_at. elim (push_cases changes c j b b_at) [
            | inl old ↦ (let within = slice_get_within changes j b old in elim (push_cases changes c i a a_at) [
              | inl first ↦ are.ascending i j a b less first old
              | inr last ↦ absurd (let place = last.0 in omega (arith, place, within, less))
            ])
            | inr last ↦ elim (push_cases changes c i a a_at) [
              | inl first ↦ (let below = are.below i a first in let form = ap (λ (d : Change). d.form) last.1 in omega (arith, below, form))
              | inr also ↦ absurd (let one = also.0 in let two = last.0 in omega (arith, one, two, less))
            ]
          ];
          below = λ i a at. elim (push_cases changes c i a at) [
            | inl old ↦ (let below = are.below i a old in omega (arith, below))
            | inr last ↦ (let form = ap (λ (d : Change). d.form) last.1 in omega (arith, form))
          ];
          each = λ form x at less through. elim (cases_eq form end) [
            | inl is ↦ subst (λ k. slice_get steps k ≡ Some x → IsChanged h s named x (change_of (changes ++ c ∷ []) k) (own_step h s steps eq k x)) (sym is)
                (λ here. subst (λ o. IsChanged h s named x o (own_step h s steps eq end x)) (sym (own_change changes c later)) (own x here through)) at
            | inr other ↦ subst (λ o. IsChanged h s named x o (own_step h s steps eq form x)) (sym (other_change changes c later form other)) (are.each form x at (omega (arith, less, other)) through)
          ];
        }
