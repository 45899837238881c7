-- The order by rule keeps the steps of each rule in their order.
use Rattle.std.proofs.Common.{ℕ, suc, length, nat_lt, ◌<◌, ◌≤◌, ◌≡◌, Bool, true, false, List, [], ◌∷◌, filter, refl, arith, cond, sym, ◌∙◌, ap, nat_le, nat_eq, ◌⊎◌, inl, inr}
use Rattle.std.proofs.lemmas.Bool.Decides.{nat_tests}
use Rattle.std.proofs.lemmas.Bool.{eqb-true, eq-eqb, ne_eqb}
use Rattle.std.proofs.lemmas.List.Elements.{filter_agree}
use Rattle.std.proofs.lemmas.List.Sorted.{sorted_far, IsStrictWeakOrder-by_number, answers_always}
use Rattle.std.specs.Borrow.{Bor}
use Rattle.std.specs.Cmp.{IsStrictWeakOrder}
use Rattle.std.specs.Fn.{ComparesAs, Called}
use Rattle.std.specs.List.Sorted.{IsSortedBy, IsStableBy, ties}
use Rattle.std.specs.Ordering.{is_lt}
use Rattle.std.specs.Prelude.{slice_index_or}
use Rattle.std.specs.declared.cmp.Ordering.{Ordering}
use denote.Param.Members.{Mut}
use Rattle.std.specs.List.{AllByRecursion}
use Rattle.brl_window.proofs.Ordering.{IsAscending, by_rule_number-ascending}
use Rattle.brl_pairs.specs.declared.step.Step.{Step}
use Rattle.brl_states.specs.declared.window_state.WindowState.{WindowState}
use Rattle.brl_window.specs.Windows.{first_state, put_in, by_rule_number}
use Rattle.brl_rules.proofs.Facts.{not_below, no_less}

three : (m n : ℕ) → (m < n) ⊎ ((n < m) ⊎ (m ≡ n))
three m n = grind arith

module _ {S : Type 0} where
  -- the steps of a rule
  abbrev pub of_rule : ℕ → List (Step S) → List (Step S)
  of_rule k xs = filter (λ y. nat_eq k y.rule) xs

  swapped : (a b : Bool) (x y : Step S) (zs : List (Step S)) → (a ≡ true → b ≡ true → ⊥) → cond b (y ∷ cond a (x ∷ zs) zs) (cond a (x ∷ zs) zs) ≡ cond a (x ∷ cond b (y ∷ zs) zs) (cond b (y ∷ zs) zs)
  swapped true true x y zs h = absurd (h refl refl)
  swapped true false x y zs h = refl
  swapped false true x y zs h = refl
  swapped false false x y zs h = refl

  pub put_in-of_rule : (k : ℕ) (x : Step S) (ys : List (Step S)) → of_rule k (put_in x ys) ≡ of_rule k (x ∷ ys)
  put_in-of_rule k x [] = refl
  put_in-of_rule k x (y ∷ ys) = at (nat_le x.rule y.rule) refl (put_in-of_rule k x ys)
    where
      not_both : nat_le x.rule y.rule ≡ false → nat_eq k x.rule ≡ true → nat_eq k y.rule ≡ true → ⊥
      not_both e p q = (let a : k ≡ x.rule = eqb-true k x.rule p in let b : k ≡ y.rule = eqb-true k y.rule q in grind (arith, nat_tests))

      at : (b : Bool) → nat_le x.rule y.rule ≡ b → of_rule k (put_in x ys) ≡ of_rule k (x ∷ ys) → of_rule k (cond b (x ∷ y ∷ ys) (y ∷ put_in x ys)) ≡ of_rule k (x ∷ y ∷ ys)
      at true e more = refl
      at false e more =
          ap (λ l. cond (nat_eq k y.rule) (y ∷ l) l) more
          ∙ swapped (nat_eq k x.rule) (nat_eq k y.rule) x y (of_rule k ys) (not_both e)

  pub by_rule_number-of_rule : (k : ℕ) (xs : List (Step S)) → of_rule k (by_rule_number xs) ≡ of_rule k xs
  by_rule_number-of_rule k [] = refl
  by_rule_number-of_rule k (x ∷ xs) =
      put_in-of_rule k x (by_rule_number xs) ∙ ap (λ l. cond (nat_eq k x.rule) (x ∷ l) l) (by_rule_number-of_rule k xs)

  none-below : (k m : ℕ) (ys : List (Step S)) → k < m → AllByRecursion (λ z. m ≤ z.rule) ys → of_rule k ys ≡ []
  none-below k m [] less h = refl
  none-below k m (y ∷ ys) less h =
      let other : nat_eq k y.rule ≡ false = ne_eqb k y.rule (λ e. (let a = h.0 in omega (arith, a, e, less))) in
      ap (λ t. cond t (y ∷ of_rule k ys) (of_rule k ys)) other ∙ none-below k m ys less h.1

  own-first : (y : Step S) (ys : List (Step S)) → of_rule y.rule (y ∷ ys) ≡ y ∷ of_rule y.rule ys
  own-first y ys = ap (λ t. cond t (y ∷ of_rule y.rule ys) (of_rule y.rule ys)) (eq-eqb y.rule y.rule refl)

  same-tail : (t : Bool) (x y : Step S) (us vs : List (Step S)) → cond t (x ∷ us) us ≡ cond t (y ∷ vs) vs → us ≡ vs
  same-tail true x y us vs h = cc
  same-tail false x y us vs h = h

  -- two ascending lists with the same steps of each rule are one list
  pub one-order : (xs ys : List (Step S)) → IsAscending xs → IsAscending ys → ((k : ℕ) → of_rule k xs ≡ of_rule k ys) → xs ≡ ys
  one-order [] [] a b h = refl
  one-order [] (y ∷ ys) a b h = (let e : [] ≡ y ∷ of_rule y.rule ys = h y.rule ∙ own-first y ys in cc)
  one-order (x ∷ xs) [] a b h = (let e : x ∷ of_rule x.rule xs ≡ [] = sym (own-first x xs) ∙ h x.rule in cc)
  one-order (x ∷ xs) (y ∷ ys) a b h = elim (three x.rule y.rule) [
    | inl less ↦ (let e : x ∷ of_rule x.rule xs ≡ [] = sym (own-first x xs) ∙ h x.rule ∙ none-below x.rule y.rule (y ∷ ys) less ((omega arith), b.0) in cc)
    | inr rest ↦ elim rest [
      | inl less ↦ (let e : [] ≡ y ∷ of_rule y.rule ys = sym (none-below y.rule x.rule (x ∷ xs) less ((omega arith), a.0)) ∙ h y.rule ∙ own-first y ys in cc)
      | inr same ↦ (
          let e : x ∷ of_rule x.rule xs ≡ y ∷ of_rule y.rule ys = sym (own-first x xs) ∙ h x.rule ∙ ap (λ k. of_rule k (y ∷ ys)) same ∙ own-first y ys in
          let first : x ≡ y = cc in
          let tails : xs ≡ ys = one-order xs ys a.1 b.1 (λ k. same-tail (nat_eq k x.rule) x y (of_rule k xs) (of_rule k ys)
          (h k ∙ ap (λ n. cond (nat_eq k n) (y ∷ of_rule k ys) (of_rule k ys)) (sym same))) in
          let es : x ∷ xs ≡ x ∷ ys = ap (λ l. x ∷ l) tails in
          es ∙ ap (λ z. z ∷ ys) first)
    ]
  ]

  -- an ascending list that has the steps of each rule in their order is the order by rule
  pub is-by_rule_number : (xs ys : List (Step S)) → IsAscending ys → ((k : ℕ) → of_rule k ys ≡ of_rule k xs) → ys ≡ by_rule_number xs
  is-by_rule_number xs ys a h = one-order ys (by_rule_number xs) a (by_rule_number-ascending xs) (λ k. h k ∙ sym (by_rule_number-of_rule k xs))

-- ---- A stable sort

-- some step of this rule
step_of : ℕ → Step WindowState
step_of n = record { rule = n; reads = []; cells = []; next = first_state }

ties-rule : (n : ℕ) (x : Step WindowState) → ties (λ (a : Step WindowState) b. nat_lt a.rule b.rule) (step_of n) x ≡ nat_eq n x.rule
unfolding step_of
ties-rule n x = no_less n x.rule

ascending : (xs : List (Step WindowState)) → ((i j : ℕ) (d : Step WindowState) → i < j → j < length xs → (slice_index_or xs i d).rule ≤ (slice_index_or xs j d).rule) → IsAscending xs
ascending [] h = tt
ascending (x ∷ xs) h =
    (below xs (λ k d within. h 0 (suc k) d (omega arith) (omega (arith, within))), ascending xs (λ i j d before within. h (suc i) (suc j) d (omega (arith, before)) (omega (arith, within))))
  where
    below : (ys : List (Step WindowState)) → ((k : ℕ) (d : Step WindowState) → k < length ys → x.rule ≤ (slice_index_or ys k d).rule) → AllByRecursion (λ y. x.rule ≤ y.rule) ys
    below [] g = tt
    below (y ∷ ys) g = (g 0 y (omega arith), below ys (λ k d within. g (suc k) d (omega (arith, within))))

-- a stable sort by rule number gives the steps by rule number
pub sorted_by_rule_number : {F : Type 0} {g : Mut F (Bor (Step WindowState) × (Bor (Step WindowState) × Unit {0})) Ordering} {f : F} (old new : List (Step WindowState))
    → ((lt : Step WindowState → Step WindowState → Bool) → IsStrictWeakOrder lt → ComparesAs g lt f → IsSortedBy lt new)
    → ((lt : Step WindowState → Step WindowState → Bool) → IsStrictWeakOrder lt → ComparesAs g lt f → IsStableBy lt old new)
    → ((f : F) (a : Bor (Step WindowState) × (Bor (Step WindowState) × Unit {0})) (r : Ordering) (f' : F) → Called g f a r f' → is_lt r ≡ nat_lt a.0.now.rule a.1.0.now.rule)
    → new ≡ by_rule_number old
sorted_by_rule_number {F} {g} {f} old new sorted stable compares =
    let lt = λ (a : Step WindowState) (b : Step WindowState). nat_lt a.rule b.rule in
    let order : IsStrictWeakOrder (λ (a : Step WindowState) (b : Step WindowState). nat_lt a.rule b.rule) = IsStrictWeakOrder-by_number (λ (a : Step WindowState). a.rule) in
    let answers : ComparesAs g lt f = answers_always g (λ a r. is_lt r ≡ nat_lt a.0.now.rule a.1.0.now.rule) f compares in
    is-by_rule_number old new
    (ascending new (λ i j d i<j j<n. not_below _ _ (sorted_far lt order new (sorted lt order answers) i j d (omega arith) j<n)))
    (λ n.
    sym (filter_agree (ties lt (step_of n)) (λ y. nat_eq n y.rule) (ties-rule n) new)
    ∙ stable lt order answers (step_of n)
    ∙ filter_agree (ties lt (step_of n)) (λ y. nat_eq n y.rule) (ties-rule n) old)
