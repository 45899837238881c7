-- What a state has of the forms of its base, but for steps that it has of earlier forms.
use Rattle.std.proofs.Common.{◌≡◌, ◌∙◌, ℕ, ◌+◌, Bool, true, false, not, ◌||◌, List, [], ◌∷◌, ◌++◌, Some, ap, append-nil, cond, filter, flat_map, refl, slice_get, sym, take}
use Rattle.std.proofs.lemmas.Grind.{flat_map-append}
use Rattle.std.specs.List.{list_any}
use Rattle.brl_contexts.specs.Changes.{before, own_step}
use Rattle.brl_pairs.specs.Based.{Sharing, firsts, is_same, step_past, with_more, with_one, with_past}
use Rattle.brl_pairs.specs.declared.based.Past.{Past}
use Rattle.brl_pairs.specs.declared.based.Past.TheVariants.{Broken, Same, More}
use Rattle.brl_pairs.specs.declared.step.Step.{Step}
use Rattle.brl_contexts.proofs.SameSteps.{same_step}
use Rattle.brl_pairs.proofs.Lists.{take-got}

module _ {S : Type 0} (eq : S → S → Bool) (same : (a b : S) → eq a b ≡ true → a ≡ b) where
  abbrev any : Step S → List (Step S) → Bool
  any z steps = list_any (is_same eq z) steps

  any-append : (z : Step S) (xs ys : List (Step S)) → any z (xs ++ ys) ≡ (any z xs || any z ys)
  any-append z [] ys = refl
  any-append z (x ∷ xs) ys = ap (λ b. is_same eq z x || b) (any-append z xs ys) ∙ by (is_same eq z x)
    where
      by : (b : Bool) → (b || (any z xs || any z ys)) ≡ ((b || any z xs) || any z ys)
      by true = refl
      by false = refl

  -- one more step, unless it is there
  any_one : (z x : Step S) (steps : List (Step S)) → any z (with_one eq steps x) ≡ (any z steps || is_same eq z x)
  any_one z x steps = by (any x steps) refl
    where
      there : (t : Bool) → is_same eq z x ≡ t → any x steps ≡ true → any z steps ≡ (any z steps || t)
      there true e h = (let all : any z steps ≡ true = ap (λ w. any w steps) (same_step eq same z x e) ∙ h in all ∙ sym (ap (λ b. b || true) all))
      there false e h = by_false (any z steps)
        where
          by_false : (b : Bool) → b ≡ (b || false)
          by_false true = refl
          by_false false = refl

      by : (b : Bool) → any x steps ≡ b → any z (cond b steps (steps ++ x ∷ [])) ≡ (any z steps || is_same eq z x)
      by true e = there (is_same eq z x) refl e
      by false e = any-append z steps (x ∷ []) ∙ ap (λ b. any z steps || b) (last (is_same eq z x))
        where
          last : (b : Bool) → (b || false) ≡ b
          last true = refl
          last false = refl

  any_more : (z : Step S) (more steps : List (Step S)) → any z (with_more eq steps more) ≡ (any z steps || any z more)
  any_more z [] steps = by (any z steps)
    where
      by : (b : Bool) → b ≡ (b || false)
      by true = refl
      by false = refl
  any_more z (x ∷ more) steps = any_more z more (with_one eq steps x) ∙ ap (λ b. b || any z more) (any_one z x steps) ∙ by (any z steps) (is_same eq z x)
    where
      by : (a b : Bool) → ((a || b) || any z more) ≡ (a || (b || any z more))
      by true b = refl
      by false b = refl

  -- of the first ones just those are there that are there
  pub any_firsts : (z : Step S) (steps : List (Step S)) → any z (firsts eq steps) ≡ any z steps
  any_firsts z steps = any_more z steps []

  with_more-append : (steps more last : List (Step S)) → with_more eq steps (more ++ last) ≡ with_more eq (with_more eq steps more) last
  with_more-append steps [] last = refl
  with_more-append steps (x ∷ more) last = with_more-append (with_one eq steps x) more last

  module _ {D : Type 0} (h : Sharing S D) (s : S) (steps : List (Step S)) where
    -- one form more
    pub before_more : (k : ℕ) (x : Step S) → slice_get steps k ≡ Some x → before h s steps (k + 1) ≡ before h s steps k ++ step_past h s x
    before_more k x at =
        ap (flat_map (step_past h s)) (take-got steps k x at) ∙ flat_map-append (step_past h s) (take k steps) (x ∷ [])
        ∙ ap (λ l. before h s steps k ++ l) (append-nil (step_past h s x))

    -- a step is added unless it is there
    added_one : (old known : List (Step S)) → ((z : Step S) → any z old ≡ any z known) → (z : Step S) → with_one eq old z ≡ old ++ filter (λ w. not (any w known)) (z ∷ [])
    added_one old known are z = ap (λ b. cond b old (old ++ z ∷ [])) (are z) ∙ by (any z known)
      where
        by : (b : Bool) → cond b old (old ++ z ∷ []) ≡ old ++ cond (not b) (z ∷ []) []
        by true = sym (append-nil old)
        by false = refl

    added_past : (old known : List (Step S)) → ((z : Step S) → any z old ≡ any z known) → (x : Step S) (p : Past D)
        → with_more eq old (with_past h x p) ≡ old ++ filter (λ w. not (any w known)) (with_past h x p)
    added_past old known are x Broken = sym (append-nil old)
    added_past old known are x Same = added_one old known are x
    added_past old known are x (More more) = added_one old known are (record x { next = h.owing x.next more })

    added : (old known : List (Step S)) → ((z : Step S) → any z old ≡ any z known) → (x : Step S)
        → with_more eq old (step_past h s x) ≡ old ++ filter (λ w. not (any w known)) (step_past h s x)
    added old known are x = by (h.opens s (h.gate x.reads))
      where
        by : (b : Bool) → with_more eq old (cond b (with_past h x (h.past s x.reads x.next)) []) ≡ old ++ filter (λ w. not (any w known)) (cond b (with_past h x (h.past s x.reads x.next)) [])
        by true = added_past old known are x (h.past s x.reads x.next)
        by false = sym (append-nil old)

    -- of the first steps, with one form more
    pub firsts_more : (k : ℕ) (x : Step S) → slice_get steps k ≡ Some x → firsts eq (before h s steps (k + 1)) ≡ firsts eq (before h s steps k) ++ own_step h s steps eq k x
    firsts_more k x at =
        ap (firsts eq) (before_more k x at) ∙ with_more-append [] (before h s steps k) (step_past h s x)
        ∙ added (firsts eq (before h s steps k)) (before h s steps k) (λ z. any_firsts z (before h s steps k)) x
