-- What a state has of a form, by what is left past it.
use Rattle.std.proofs.Common.{◌≡◌, ◌∙◌, ℕ, zero, suc, ◌+◌, ◌<◌, ◌≤◌, ◌⊎◌, Bool, true, false, not, ◌&&◌, ◌||◌, List, [], ◌∷◌, ◌++◌, Some, ap, arith, cond, filter, inl, inr, length, nat_eq, refl, slice_get, subst, sym, take}
use Rattle.std.specs.Cmp.Lexicographic.{bytes_decides, pointwise}
use Rattle.std.specs.Cmp.{nat_eq_equiv}
use Rattle.std.specs.List.{list_any}
use Rattle.brl_contexts.specs.Changes.{before, own_step}
use Rattle.brl_contexts.proofs.Own.{any_firsts, firsts_more}
use Rattle.brl_pairs.specs.Based.{KeepsSharing, Sharing, firsts, is_same, step_past, with_past}
use Rattle.brl_pairs.specs.Runs.{Behaviour, KeepsLaws}
use Rattle.brl_pairs.specs.declared.based.Past.{Past}
use Rattle.brl_pairs.specs.declared.based.Past.TheVariants.{Broken, Same, More}
use Rattle.brl_pairs.specs.declared.step.Step.{Step}
use Rattle.brl_contexts.proofs.SameSteps.{alone, found_in}
use Rattle.brl_pairs.proofs.Lists.{inside}
use Rattle.brl_pairs.proofs.Listing.{IsIn, at-in, from-flat_map, in-append, in-at, in-flat_map}

-- an element of the front of a list
pub take-at : {X : Type 0} (xs : List X) (k j : ℕ) (x : X) → slice_get (take k xs) j ≡ Some x → (slice_get xs j ≡ Some x) × (j < k)
take-at [] zero j x at = cc
take-at [] (suc k) j x at = cc
take-at (y ∷ xs) zero j x at = cc
take-at (y ∷ xs) (suc k) zero x at = (at, omega arith)
take-at (y ∷ xs) (suc k) (suc j) x at = (let h = take-at xs k j x at in let less = h.1 in (h.0, omega (arith, less)))

pub at-take : {X : Type 0} (xs : List X) (k j : ℕ) (x : X) → slice_get xs j ≡ Some x → j < k → slice_get (take k xs) j ≡ Some x
at-take [] k j x at less = cc
at-take (y ∷ xs) zero j x at less = absurd (omega (arith, less))
at-take (y ∷ xs) (suc k) zero x at less = at
at-take (y ∷ xs) (suc k) (suc j) x at less = at-take xs k j x at (omega (arith, less))

module _ {S : Type 0} (eq : S → S → Bool) (same : (a b : S) → eq a b ≡ true → a ≡ b) (itself : (a : S) → eq a a ≡ true) where
  same_itself : (z : Step S) → is_same eq z z ≡ true
  same_itself z = ap (λ b. ((b && pointwise nat_eq z.reads z.reads) && pointwise nat_eq z.cells z.cells) && eq z.next z.next) (nat_eq_equiv.refl z.rule)
      ∙ ap (λ b. (b && pointwise nat_eq z.cells z.cells) && eq z.next z.next) ((bytes_decides z.reads z.reads).1 refl)
      ∙ ap (λ b. b && eq z.next z.next) ((bytes_decides z.cells z.cells).1 refl) ∙ itself z.next

  -- a member is found
  pub found_of : (z : Step S) (steps : List (Step S)) → IsIn z steps → list_any (is_same eq z) steps ≡ true
  found_of z [] i = absurd i
  found_of z (y ∷ steps) (inl is) = ap (λ b. b || list_any (is_same eq z) steps) (ap (is_same eq z) (sym is) ∙ same_itself z)
  found_of z (y ∷ steps) (inr later) = by (is_same eq z y) (found_of z steps later)
    where
      by : (b : Bool) → list_any (is_same eq z) steps ≡ true → (b || list_any (is_same eq z) steps) ≡ true
      by true h = refl
      by false h = h

  module _ {D : Type 0} (m : Behaviour S) (h : Sharing S D) (laws : KeepsLaws m) (keeps : KeepsSharing eq m h) (s base : S) (is_base : h.base s ≡ Some base) where
    abbrev steps : List (Step S)
    steps = m.steps base

    abbrev pub any_before : ℕ → Step S → Bool
    any_before k z = list_any (is_same eq z) (before h s steps k)

    -- what a state has of a form whose gate it opens
    opened_step : (x : Step S) (p : Past D) → h.opens s (h.gate x.reads) ≡ true → h.past s x.reads x.next ≡ p → step_past h s x ≡ with_past h x p
    opened_step x p through is = ap (λ b. cond b (with_past h x (h.past s x.reads x.next)) []) through ∙ ap (with_past h x) is

    -- and one of a form whose gate is open, if it has any
    pub open_of : (x z : Step S) → IsIn z (step_past h s x) → h.opens s (h.gate x.reads) ≡ true
    open_of x z i = by (h.opens s (h.gate x.reads)) refl i
      where
        by : (b : Bool) → h.opens s (h.gate x.reads) ≡ b → IsIn z (cond b (with_past h x (h.past s x.reads x.next)) []) → h.opens s (h.gate x.reads) ≡ true
        by true e k = e
        by false e k = absurd k

    -- what it has of a form but for earlier steps, it has of the form
    pub from_own : (k : ℕ) (x z : Step S) → IsIn z (own_step h s steps eq k x) → IsIn z (step_past h s x)
    from_own k x z i = by (step_past h s x) i
      where
        by : (some : List (Step S)) → IsIn z (filter (λ w. not (any_before k w)) some) → IsIn z some
        by [] j = absurd j
        by (w ∷ some) j = each (not (any_before k w)) (by some) j
          where
            each : (b : Bool) → (IsIn z (filter (λ v. not (any_before k v)) some) → IsIn z some) → IsIn z (cond b (w ∷ filter (λ v. not (any_before k v)) some) (filter (λ v. not (any_before k v)) some)) → IsIn z (w ∷ some)
            each true more j = elim j [ inl is ↦ inl is | inr later ↦ inr (more later) ]
            each false more j = inr (more j)

    -- two forms don't become the same, where one is left as it is
    pub no_two : (j k : ℕ) (y x z : Step S) → j < k → slice_get steps j ≡ Some y → slice_get steps k ≡ Some x → step_past h s y ≡ z ∷ [] → step_past h s x ≡ z ∷ []
        → (h.past s x.reads x.next ≡ Same) ⊎ (h.past s y.reads y.next ≡ Same) → ⊥
    no_two j k y x z less y_at x_at y_is x_is free = (laws.in_order base j k y x less y_at x_at).differ (elim free [
      | inl first ↦ sym (keeps.apart s base x y z is_base (k, x_at) (j, y_at) x_is y_is first)
      | inr second ↦ keeps.apart s base y x z is_base (j, y_at) (k, x_at) y_is x_is second
    ])

    -- a step that an earlier form gives
    from_before : (k : ℕ) (z : Step S) → any_before k z ≡ true → (j : ℕ) × (y : Step S) × (j < k) × (slice_get steps j ≡ Some y) × IsIn z (step_past h s y)
    from_before k z there =
        let i = found_in eq same z (before h s steps k) there in
        let y = from-flat_map (step_past h s) z (take k steps) i in
        let j = in-at y.0 (take k steps) y.1 in
        let at = take-at steps k j.0 y.0 j.1 in
        (j.0, y.0, at.1, at.0, y.2)

    pub into_before : (j k : ℕ) (y z : Step S) → j < k → slice_get steps j ≡ Some y → IsIn z (step_past h s y) → any_before k z ≡ true
    into_before j k y z less at i = found_of z (before h s steps k) (in-flat_map (step_past h s) y z (take k steps) (at-in y (take k steps) j (at-take steps k j y at less)) i)

    -- ---- What it has of a form

    own_by : (k : ℕ) (x z : Step S) (b : Bool) → step_past h s x ≡ z ∷ [] → any_before k z ≡ b → own_step h s steps eq k x ≡ cond (not b) (z ∷ []) []
    own_by k x z b is known = ap (filter (λ w. not (any_before k w))) is ∙ ap (λ t. cond (not t) (z ∷ []) []) known

    pub untouched : (k : ℕ) (x : Step S) → slice_get steps k ≡ Some x → h.opens s (h.gate x.reads) ≡ true → h.past s x.reads x.next ≡ Same → own_step h s steps eq k x ≡ x ∷ []
    untouched k x at through free = by (any_before k x) refl
      where
        own : step_past h s x ≡ x ∷ []
        own = opened_step x Same through free

        by : (b : Bool) → any_before k x ≡ b → own_step h s steps eq k x ≡ x ∷ []
        by true e = absurd (let y = from_before k x e in no_two y.0 k y.1 x x y.2 y.3 at (alone h s y.1 x y.4) own (inl free))
        by false e = own_by k x x false own e

    pub broken : (k : ℕ) (x : Step S) → h.opens s (h.gate x.reads) ≡ true → h.past s x.reads x.next ≡ Broken → own_step h s steps eq k x ≡ []
    broken k x through is = ap (filter (λ w. not (any_before k w))) (opened_step x Broken through is)

    module _ (k : ℕ) (x : Step S) (more : D) (at : slice_get steps k ≡ Some x) (through : h.opens s (h.gate x.reads) ≡ true) (is : h.past s x.reads x.next ≡ More more) where
      abbrev pub longer : Step S
      longer = record x { next = h.owing x.next more }

      pub longer_step : step_past h s x ≡ longer ∷ []
      longer_step = opened_step x (More more) through is

      pub repeated : any_before k longer ≡ true → own_step h s steps eq k x ≡ []
      repeated there = own_by k x longer true longer_step there

      pub fresh : any_before k longer ≡ false → own_step h s steps eq k x ≡ longer ∷ []
      fresh none = own_by k x longer false longer_step none

    -- a step that an earlier form gives, and none before that
    pub first_before : (k : ℕ) (z : Step S) → k ≤ length steps → any_before k z ≡ true → (j : ℕ) × (y : Step S) × (j < k) × (slice_get steps j ≡ Some y) × IsIn z (own_step h s steps eq j y)
    first_before k z within there = from_firsts k within (found_in eq same z (firsts eq (before h s steps k)) (any_firsts eq same z (before h s steps k) ∙ there))
      where
        from_firsts : (k : ℕ) → k ≤ length steps → IsIn z (firsts eq (before h s steps k)) → (j : ℕ) × (y : Step S) × (j < k) × (slice_get steps j ≡ Some y) × IsIn z (own_step h s steps eq j y)
        from_firsts zero within i = absurd i
        from_firsts (suc k) within i =
            let y = inside steps k (omega (arith, within)) in
            let more : firsts eq (before h s steps (suc k)) ≡ firsts eq (before h s steps k) ++ own_step h s steps eq k y.0 = ap (λ (n : ℕ). firsts eq (before h s steps n)) (let e : suc k ≡ k + 1 = omega arith in e) ∙ firsts_more eq same h s steps k y.0 y.1 in
            elim (in-append z (firsts eq (before h s steps k)) (own_step h s steps eq k y.0) (subst (IsIn z) more i)) [
              | inl early ↦ (let w = from_firsts k (omega (arith, within)) early in let less = w.2 in (w.0, w.1, omega (arith, less), w.3, w.4))
              | inr here ↦ (k, y.0, omega arith, y.1, here)
            ]
