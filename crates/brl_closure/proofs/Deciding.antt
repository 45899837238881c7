-- A state or a pair is there or not, where equal states are one.
use Rattle.std.proofs.Common.{◌≡◌, ℕ, zero, suc, Bool, true, false, List, [], ◌∷◌, ◌⊎◌, inl, inr, Option, Some, None, slice_get, refl, sym, ◌∙◌, ap, subst, true≢false}
use Rattle.std.proofs.lemmas.Slice.Eq.{bytes_eq-Decides}
use Rattle.std.specs.Str.{bytes_eq}
use Rattle.brl_pairs.specs.Sets.{pair_of, sets_of}
use Rattle.std.specs.Option.{option_and_then}
use Rattle.brl_pairs.specs.Body.{BodyView}
use Rattle.brl_pairs.specs.Pairs.{HasPair, swapped}
use Rattle.brl_pairs.specs.declared.step.Pair.{Pair}

-- by a test that decides it
pub by_test : {P : Type 0} (test : Bool) → (test ≡ true → P) → (P → test ≡ true) → P ⊎ (P → ⊥)
by_test true to from = inl (to refl)
by_test false to from = inr (λ p. true≢false (sym (from p)))

-- some member of the list gives this value, or none does
one_gives_or : {A B : Type 0} (f : A → Option B) (y : B) → ((x : A) → (f x ≡ Some y) ⊎ (f x ≡ Some y → ⊥)) → (xs : List A) → ((k : ℕ) × (option_and_then f (slice_get xs k) ≡ Some y)) ⊎ (((k : ℕ) × (option_and_then f (slice_get xs k) ≡ Some y)) → ⊥)
one_gives_or f y decides [] = inr (λ h. cc)
one_gives_or f y decides (x ∷ xs) =
    elim (decides x) [
      | inl gives ↦ inl (0, gives)
      | inr not_here ↦ elim (one_gives_or f y decides xs) [
        | inl later ↦ inl (suc later.0, later.1)
        | inr none ↦ inr (λ h. by_place h.0 not_here none h.1)
      ]
    ]
  where
    by_place : (k : ℕ) → (f x ≡ Some y → ⊥) → (((k : ℕ) × (option_and_then f (slice_get xs k) ≡ Some y)) → ⊥) → option_and_then f (slice_get (x ∷ xs) k) ≡ Some y → ⊥
    by_place zero not_here none e = not_here e
    by_place (suc k) not_here none e = none (k, e)

itself_behind : {A : Type 0} (o : Option A) → option_and_then (λ x. Some x) o ≡ o
itself_behind None = refl
itself_behind (Some x) = refl

module _ {S : Type 0} {eq : S → S → Bool} (same : (x y : S) → eq x y ≡ true → x ≡ y) (itself : (x : S) → eq x x ≡ true) where
  pub same_or : (x y : S) → (x ≡ y) ⊎ (x ≡ y → ⊥)
  same_or x y = by_test (eq x y) (same x y) (λ e. subst (λ (z : S). eq x z ≡ true) e (itself x))

  pair_same_or : (p q : Pair S) → (p ≡ q) ⊎ (p ≡ q → ⊥)
  pair_same_or p q =
      elim (same_or p.ahead q.ahead) [
        | inr apart ↦ inr (λ e. apart (ap (λ (z : Pair S). z.ahead) e))
        | inl ahead ↦ elim (same_or p.behind q.behind) [
          | inr apart ↦ inr (λ e. apart (ap (λ (z : Pair S). z.behind) e))
          | inl behind ↦ elim (by_test (bytes_eq p.lead q.lead) (bytes_eq-Decides p.lead q.lead).0 (bytes_eq-Decides p.lead q.lead).1) [
            | inr apart ↦ inr (λ e. apart (ap (λ (z : Pair S). z.lead) e))
            | inl lead ↦ inl (λ i. record { ahead = ahead i; behind = behind i; lead = lead i })
          ]
        ]
      ]

  gives_or : (o : Option (Pair S)) (p : Pair S) → (o ≡ Some p) ⊎ (o ≡ Some p → ⊥)
  gives_or None p = inr (λ e. cc)
  gives_or (Some q) p = elim (pair_same_or q p) [ inl e ↦ inl (ap (λ (z : Pair S). Some z) e) | inr apart ↦ inr (λ e. apart (some_is q p e)) ]
    where
      some_is : (x y : Pair S) → Some x ≡ Some y → x ≡ y
      some_is x y h = cc

  pub has_state_or : (body : BodyView S) (s : S) → (sets_of body).has_state s ⊎ ((sets_of body).has_state s → ⊥)
  has_state_or body s =
      elim (one_gives_or (λ (x : S). Some x) s (λ x. state_or x s) body.states) [
        | inl h ↦ inl (h.0, sym (itself_behind (slice_get body.states h.0)) ∙ h.1)
        | inr none ↦ inr (λ h. none (h.0, itself_behind (slice_get body.states h.0) ∙ h.1))
      ]
    where
      state_or : (x y : S) → (Some x ≡ Some y) ⊎ (Some x ≡ Some y → ⊥)
      state_or x y = elim (same_or x y) [ inl e ↦ inl (ap (λ (z : S). Some z) e) | inr apart ↦ inr (λ e. apart (some_is x y e)) ]
        where
          some_is : (x y : S) → Some x ≡ Some y → x ≡ y
          some_is x y h = cc

  listed_or : (body : BodyView S) (p : Pair S) → (sets_of body).has_pair p ⊎ ((sets_of body).has_pair p → ⊥)
  listed_or body p = one_gives_or (λ pair. pair_of body.states pair) p (λ pair. gives_or (pair_of body.states pair) p) body.pairs

  pub has_pair_or : (body : BodyView S) (p : Pair S) → HasPair (sets_of body) p ⊎ (HasPair (sets_of body) p → ⊥)
  has_pair_or body p =
      elim (listed_or body p) [
        | inl there ↦ inl (inl there)
        | inr missing ↦ elim (by_test (bytes_eq p.lead []) (bytes_eq-Decides p.lead []).0 (bytes_eq-Decides p.lead []).1) [
          | inr some ↦ inr (λ h. elim h [ inl there ↦ missing there | inr other ↦ some other.0 ])
          | inl no_lead ↦ elim (listed_or body (swapped p)) [
            | inl there ↦ inl (inr (no_lead, there))
            | inr none ↦ inr (λ h. elim h [ inl there ↦ missing there | inr other ↦ none other.1 ])
          ]
        ]
      ]
