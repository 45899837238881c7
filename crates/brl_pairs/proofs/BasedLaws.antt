-- The steps of a state are what it has of the steps of its base.
use Rattle.std.proofs.Common.{◌≡◌, ◌⊎◌, Bool, true, false, ◌&&◌, ◌||◌, List, [], ◌∷◌, ◌++◌, Some, ap, cond, flat_map, inl, inr, nat_eq, refl, subst, sym, ◌∙◌}
use Rattle.std.specs.Cmp.{first_so, second_so}
use Rattle.std.specs.Cmp.Lexicographic.{bytes_decides, pointwise}
use Rattle.std.specs.List.{list_any}
use Rattle.std.proofs.lemmas.Bool.{eqb-true}
use Rattle.brl_pairs.specs.Based.{IsPast, KeepsSharing, Sharing, firsts, is_same, meeting, step_past, with_more, with_one, with_past}
use Rattle.brl_pairs.specs.Runs.{Behaviour, IsListed}
use Rattle.brl_pairs.specs.declared.based.Past.{Past}
use Rattle.brl_pairs.specs.declared.based.Past.TheVariants.{Broken, Same, More}
use Rattle.brl_pairs.specs.declared.step.Step.{Step}
use Rattle.brl_pairs.proofs.Listing.{IsIn, at-in, from-flat_map, in-append, in-at, in-flat_map, in-left, in-right}

-- ---- Of equal steps the first

module _ {S : Type 0} (eq : S → S → Bool) (same : (a b : S) → eq a b ≡ true → a ≡ b) where
  -- steps that are the same are one
  same_step : (x y : Step S) → is_same eq x y ≡ true → x ≡ y
  same_step x y h =
      let three = first_so ((nat_eq x.rule y.rule && pointwise nat_eq x.reads y.reads) && pointwise nat_eq x.cells y.cells) (eq x.next y.next) h in
      let two = first_so (nat_eq x.rule y.rule && pointwise nat_eq x.reads y.reads) (pointwise nat_eq x.cells y.cells) three in
      let rule : x.rule ≡ y.rule = eqb-true x.rule y.rule (first_so (nat_eq x.rule y.rule) (pointwise nat_eq x.reads y.reads) two) in
      let reads : x.reads ≡ y.reads = (bytes_decides x.reads y.reads).0 (second_so (nat_eq x.rule y.rule) (pointwise nat_eq x.reads y.reads) two) in
      let cells : x.cells ≡ y.cells = (bytes_decides x.cells y.cells).0 (second_so (nat_eq x.rule y.rule && pointwise nat_eq x.reads y.reads) (pointwise nat_eq x.cells y.cells) three) in
      let next : x.next ≡ y.next = same x.next y.next (second_so ((nat_eq x.rule y.rule && pointwise nat_eq x.reads y.reads) && pointwise nat_eq x.cells y.cells) (eq x.next y.next) h) in
      λ i. record { rule = rule i; reads = reads i; cells = cells i; next = next i }

  found_in : (x : Step S) (steps : List (Step S)) → list_any (is_same eq x) steps ≡ true → IsIn x steps
  found_in x [] h = cc
  found_in x (y ∷ steps) h = by (is_same eq x y) refl h (found_in x steps)
    where
      by : (b : Bool) → is_same eq x y ≡ b → (b || list_any (is_same eq x) steps) ≡ true → (list_any (is_same eq x) steps ≡ true → IsIn x steps) → IsIn x (y ∷ steps)
      by true e k more = inl (same_step x y e)
      by false e k more = inr (more k)

  -- what was there stays, and what is added is there
  in_one_more : (z x : Step S) (steps : List (Step S)) → IsIn z steps ⊎ (z ≡ x) → IsIn z (with_one eq steps x)
  in_one_more z x steps h = by (list_any (is_same eq x) steps) refl
    where
      by : (b : Bool) → list_any (is_same eq x) steps ≡ b → IsIn z (cond b steps (steps ++ x ∷ []))
      by true e = elim h [ inl k ↦ k | inr is ↦ subst (λ (y : Step S). IsIn y steps) (sym is) (found_in x steps e) ]
      by false e = elim h [ inl k ↦ in-left z steps (x ∷ []) k | inr is ↦ in-right z steps (x ∷ []) (inl is) ]

  in_more : (z : Step S) (more steps : List (Step S)) → IsIn z steps ⊎ IsIn z more → IsIn z (with_more eq steps more)
  in_more z [] steps h = elim h [ inl k ↦ k | inr none ↦ absurd none ]
  in_more z (x ∷ more) steps h = in_more z more (with_one eq steps x) (elim h [
    | inl k ↦ inl (in_one_more z x steps (inl k))
    | inr other ↦ elim other [ inl is ↦ inl (in_one_more z x steps (inr is)) | inr later ↦ inr later ]
  ])

  -- and nothing else
  from_one_more : (z x : Step S) (steps : List (Step S)) → IsIn z (with_one eq steps x) → IsIn z steps ⊎ (z ≡ x)
  from_one_more z x steps h = by (list_any (is_same eq x) steps) h
    where
      by : (b : Bool) → IsIn z (cond b steps (steps ++ x ∷ [])) → IsIn z steps ⊎ (z ≡ x)
      by true k = inl k
      by false k = elim (in-append z steps (x ∷ []) k) [ inl old ↦ inl old | inr new ↦ elim new [ inl is ↦ inr is | inr none ↦ absurd none ] ]

  from_more : (z : Step S) (more steps : List (Step S)) → IsIn z (with_more eq steps more) → IsIn z steps ⊎ IsIn z more
  from_more z [] steps h = inl h
  from_more z (x ∷ more) steps h = elim (from_more z more (with_one eq steps x) h) [
    | inl k ↦ elim (from_one_more z x steps k) [ inl old ↦ inl old | inr is ↦ inr (inl is) ]
    | inr later ↦ inr (inr later)
  ]

  -- ---- By single steps

  module _ {D : Type 0} (m : Behaviour S) (h : Sharing S D) (keeps : KeepsSharing eq m h) where
    one_past : (x z : Step S) (p : Past D) → IsIn z (with_past h x p) → with_past h x p ≡ z ∷ []
    one_past x z Broken i = absurd i
    one_past x z Same i = elim i [ inl is ↦ ap (λ (y : Step S). y ∷ []) (sym is) | inr none ↦ absurd none ]
    one_past x z (More more) i = elim i [ inl is ↦ ap (λ (y : Step S). y ∷ []) (sym is) | inr none ↦ absurd none ]

    -- it is all that the state has of the step
    alone : (s : S) (x z : Step S) → IsIn z (step_past h s x) → step_past h s x ≡ z ∷ []
    alone s x z i = by (h.opens s (h.gate x.reads)) i
      where
        by : (b : Bool) → IsIn z (cond b (with_past h x (h.past s x.reads x.next)) []) → cond b (with_past h x (h.past s x.reads x.next)) [] ≡ z ∷ []
        by true k = one_past x z (h.past s x.reads x.next) k
        by false k = absurd k

    module _ (s base : S) (is : h.base s ≡ Some base) where
      pub from_base : (z : Step S) → IsListed (m.steps s) z → IsPast h s (m.steps base) z
      from_base z listed =
          let i : IsIn z (firsts eq (flat_map (step_past h s) (m.steps base))) = subst (IsIn z) (keeps.steps s base is) (at-in z (m.steps s) listed.0 listed.1) in
          let past : IsIn z (flat_map (step_past h s) (m.steps base)) = elim (from_more z (flat_map (step_past h s) (m.steps base)) [] i) [ inl none ↦ absurd none | inr k ↦ k ] in
          let x = from-flat_map (step_past h s) z (m.steps base) past in
          record { from = x.0; from_listed = in-at x.0 (m.steps base) x.1; becomes = alone s x.0 z x.2 }

      pub into_base : (z : Step S) → IsPast h s (m.steps base) z → IsListed (m.steps s) z
      into_base z past =
          let x = past.from in
          let i : IsIn z (flat_map (step_past h s) (m.steps base)) =
          in-flat_map (step_past h s) x z (m.steps base) (at-in x (m.steps base) past.from_listed.0 past.from_listed.1) (subst (IsIn z) (sym past.becomes) (inl refl)) in
          in-at z (m.steps s) (subst (IsIn z) (sym (keeps.steps s base is)) (in_more z (flat_map (step_past h s) (m.steps base)) [] (inr i)))

      pub free_stays : (x : Step S) → IsListed (m.steps base) x → h.opens s (h.gate x.reads) ≡ true → meeting (h.bars s) x.reads ≡ [] → IsListed (m.steps s) x
      free_stays x listed through none = into_base x (record {
        from = x;
        from_listed = listed;
        becomes = ap (λ b. cond b (with_past h x (h.past s x.reads x.next)) []) through ∙ ap (with_past h x) (keeps.free s x.next x.reads none);
      })
