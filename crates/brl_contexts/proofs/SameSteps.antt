-- Steps that are the same, and the one step that a state has of a form.
use Rattle.std.proofs.Common.{◌≡◌, Bool, true, false, ◌&&◌, ◌||◌, List, [], ◌∷◌, ap, cond, inl, inr, nat_eq, refl, sym}
use Rattle.std.proofs.lemmas.Bool.{eqb-true}
use Rattle.std.specs.Cmp.{first_so, second_so}
use Rattle.std.specs.Cmp.Lexicographic.{bytes_decides, pointwise}
use Rattle.std.specs.List.{list_any}
use Rattle.brl_pairs.specs.Based.{Sharing, is_same, step_past, with_past}
use Rattle.brl_pairs.specs.declared.based.Past.{Past}
use Rattle.brl_pairs.specs.declared.based.Past.TheVariants.{Broken, Same, More}
use Rattle.brl_pairs.specs.declared.step.Step.{Step}
use Rattle.brl_pairs.proofs.Listing.{IsIn}

module _ {S : Type 0} (eq : S → S → Bool) (same : (a b : S) → eq a b ≡ true → a ≡ b) where
  pub same_step : (x y : Step S) → is_same eq x y ≡ true → x ≡ y
  same_step x y h =
      let three = first_so _ (eq x.next y.next) h in
      let two = first_so _ (pointwise nat_eq x.cells y.cells) three in
      let rule = eqb-true x.rule y.rule (first_so _ (pointwise nat_eq x.reads y.reads) two) in
      let reads = (bytes_decides x.reads y.reads).0 (second_so (nat_eq x.rule y.rule) _ two) in
      let cells = (bytes_decides x.cells y.cells).0 (second_so (nat_eq x.rule y.rule && pointwise nat_eq x.reads y.reads) _ three) in
      let next = same x.next y.next (second_so ((nat_eq x.rule y.rule && pointwise nat_eq x.reads y.reads) && pointwise nat_eq x.cells y.cells) _ h) in
      λ i. record { rule = rule i; reads = reads i; cells = cells i; next = next i }

  -- what is found is a member
  pub found_in : (x : Step S) (steps : List (Step S)) → list_any (is_same eq x) steps ≡ true → IsIn x steps
  found_in x [] h = cc
  found_in x (y ∷ steps) h = by (is_same eq x y) refl h (found_in x steps)
    where
      by : (b : Bool) → is_same eq x y ≡ b → (b || list_any (is_same eq x) steps) ≡ true → (list_any (is_same eq x) steps ≡ true → IsIn x steps) → IsIn x (y ∷ steps)
      by true e k more = inl (same_step x y e)
      by false e k more = inr (more k)

module _ {S D : Type 0} (h : Sharing S D) where
  one_past : (x z : Step S) (p : Past D) → IsIn z (with_past h x p) → with_past h x p ≡ z ∷ []
  one_past x z Broken i = absurd i
  one_past x z Same i = elim i [ inl is ↦ ap (λ (y : Step S). y ∷ []) (sym is) | inr none ↦ absurd none ]
  one_past x z (More more) i = elim i [ inl is ↦ ap (λ (y : Step S). y ∷ []) (sym is) | inr none ↦ absurd none ]

  pub alone : (s : S) (x z : Step S) → IsIn z (step_past h s x) → step_past h s x ≡ z ∷ []
  alone s x z i = by (h.opens s (h.gate x.reads)) i
    where
      by : (b : Bool) → IsIn z (cond b (with_past h x (h.past s x.reads x.next)) []) → cond b (with_past h x (h.past s x.reads x.next)) [] ≡ z ∷ []
      by true k = one_past x z (h.past s x.reads x.next) k
      by false k = absurd k
