-- The place of an element after windows are joined and steps are sorted.
use Rattle.std.proofs.Common.{ℕ, zero, suc, ◌≡◌, Bool, true, false, List, [], ◌∷◌, ◌++◌, refl, cond, sym, ap, subst, Some, ◌⊎◌, inl, inr, nat_le}
use Rattle.std.specs.Prelude.{slice_get}
use Rattle.std.specs.List.{flat_map}
use Rattle.brl_pairs.specs.declared.step.Step.{Step}
use Rattle.brl_window.specs.Windows.{put_in, by_rule_number}
use Rattle.brl_pairs.proofs.Listing.{IsIn}

module _ {S : Type 0} where
  put-new : (b : Bool) (x y : Step S) (ys zs : List (Step S)) → IsIn x zs → IsIn x (cond b (x ∷ y ∷ ys) (y ∷ zs))
  put-new true x y ys zs h = inl refl
  put-new false x y ys zs h = inr h

  pub put_in-new : (x : Step S) (xs : List (Step S)) → IsIn x (put_in x xs)
  put_in-new x [] = inl refl
  put_in-new x (y ∷ ys) = put-new (nat_le x.rule y.rule) x y ys (put_in x ys) (put_in-new x ys)

  put-old : (b : Bool) (x y z : Step S) (ys zs : List (Step S)) → IsIn z (y ∷ ys) → (IsIn z ys → IsIn z zs) → IsIn z (cond b (x ∷ y ∷ ys) (y ∷ zs))
  put-old true x y z ys zs h more = inr h
  put-old false x y z ys zs (inl e) more = inl e
  put-old false x y z ys zs (inr h) more = inr (more h)

  pub put_in-old : (x z : Step S) (xs : List (Step S)) → IsIn z xs → IsIn z (put_in x xs)
  put_in-old x z [] h = absurd h
  put_in-old x z (y ∷ ys) h = put-old (nat_le x.rule y.rule) x y z ys (put_in x ys) h (put_in-old x z ys)

  pub in-by_rule_number : (z : Step S) (xs : List (Step S)) → IsIn z xs → IsIn z (by_rule_number xs)
  in-by_rule_number z [] h = absurd h
  in-by_rule_number z (x ∷ xs) (inl e) = subst (λ w. IsIn w (put_in x (by_rule_number xs))) (sym e) (put_in-new x (by_rule_number xs))
  in-by_rule_number z (x ∷ xs) (inr h) = put_in-old x z (by_rule_number xs) (in-by_rule_number z xs h)

  put-from : (b : Bool) (x y z : Step S) (ys zs : List (Step S)) → IsIn z (cond b (x ∷ y ∷ ys) (y ∷ zs)) → (IsIn z zs → (z ≡ x) ⊎ IsIn z ys) → (z ≡ x) ⊎ IsIn z (y ∷ ys)
  put-from true x y z ys zs (inl e) more = inl e
  put-from true x y z ys zs (inr h) more = inr h
  put-from false x y z ys zs (inl e) more = inr (inl e)
  put-from false x y z ys zs (inr h) more = elim (more h) [ inl e ↦ inl e | inr k ↦ inr (inr k) ]

  pub put_in-from : (x z : Step S) (xs : List (Step S)) → IsIn z (put_in x xs) → (z ≡ x) ⊎ IsIn z xs
  put_in-from x z [] h = h
  put_in-from x z (y ∷ ys) h = put-from (nat_le x.rule y.rule) x y z ys (put_in x ys) h (put_in-from x z ys)

  pub from-by_rule_number : (z : Step S) (xs : List (Step S)) → IsIn z (by_rule_number xs) → IsIn z xs
  from-by_rule_number z [] h = absurd h
  from-by_rule_number z (x ∷ xs) h = elim (put_in-from x z (by_rule_number xs) h) [ inl e ↦ inl e | inr k ↦ inr (from-by_rule_number z xs k) ]
