-- The forms that bars meet, form by form.
use Rattle.std.proofs.Common.{◌≡◌, ◌≢◌, ◌∙◌, ◌==◌, ℕ, zero, suc, ◌+◌, ◌<◌, ◌≤◌, Bool, true, false, All, List, [], ◌∷◌, ◌++◌, ap, ap₂, arith, cond, filter, flat_map, get_or, inl, inr, length, map, nat_eq, refl, subst, sym}
use Rattle.std.proofs.lemmas.Bool.{cases_eq, cases_lt}
use Rattle.std.proofs.lemmas.Bool.Decides.{eqb_tells}
use Rattle.std.proofs.lemmas.List.{get_or-map, get_or_default, length-map}
use Rattle.std.proofs.lemmas.List.Elements.{filter-append}
use Rattle.std.proofs.lemmas.Map.Keys.{apart_from_distinct}
use Rattle.std.specs.Cmp.{nat_eq_equiv}
use Rattle.std.specs.List.{range_with_len}
use Rattle.brl_contexts.specs.Forms.{HasAll}
use Rattle.brl_contexts.specs.Met.{met_at, met_by, met_in, with_bars}
use Rattle.brl_contexts.specs.declared.met.Met.{Met}
use Rattle.brl_contexts.proofs.Found.{from_met}
use Rattle.brl_pairs.specs.Based.{meeting}
use Rattle.brl_pairs.specs.Order.{all_at, at, is_around}

abbrev pub of_form : ℕ → List Met → List Met
of_form form found = filter (λ (x : Met). form == x.form) found

-- numbers that differ
pub eqb-no : (a b : ℕ) → a ≢ b → nat_eq a b ≡ false
eqb-no a b differ = elim (eqb_tells a b) [ inl same ↦ absurd (differ same.1) | inr other ↦ other.0 ]

-- what one bar meets
module _ (numbers : List ℕ) (bar form place : ℕ) (here : get_or numbers place 0 ≡ form)
    (others : (k : ℕ) → k < length numbers → get_or numbers k 0 ≡ form → k ≡ place) (around : ℕ → Bool) where
  abbrev some_of : ℕ → ℕ → List Met
  some_of a n = of_form form (map (met_at numbers bar) (filter around (range_with_len a n)))

  passed : (a n : ℕ) → get_or numbers a 0 ≢ form → some_of a (suc n) ≡ some_of (a + 1) n
  passed a n other = by (around a)
    where
      by : (b : Bool) → of_form form (map (met_at numbers bar) (cond b (a ∷ filter around (range_with_len (a + 1) n)) (filter around (range_with_len (a + 1) n)))) ≡ some_of (a + 1) n
      by true = ap (λ b. cond b (met_at numbers bar a ∷ some_of (a + 1) n) (some_of (a + 1) n)) (eqb-no form (get_or numbers a 0) (λ same. other (sym same)))
      by false = refl

  none_of : (n a : ℕ) → place < a → a + n ≤ length numbers → some_of a n ≡ []
  none_of zero a after within = refl
  none_of (suc n) a after within =
      passed a n (λ same. let is = others a (omega (arith, within)) same in omega (arith, is, after)) ∙ none_of n (a + 1) (omega (arith, after)) (omega (arith, within))

  -- where the form is, there is no more after it
  met_here : (n a : ℕ) → a ≡ place → a + suc n ≤ length numbers → some_of a (suc n) ≡ cond (around place) (record { form = form; bar = bar } ∷ []) []
  met_here n a is within = by (around a) (ap around is)
    where
      none : some_of (a + 1) n ≡ []
      none = none_of n (a + 1) (omega (arith, is)) (omega (arith, within))

      own : get_or numbers a 0 ≡ form
      own = ap (λ k. get_or numbers k 0) is ∙ here

      by : (b : Bool) → b ≡ around place → of_form form (map (met_at numbers bar) (cond b (a ∷ filter around (range_with_len (a + 1) n)) (filter around (range_with_len (a + 1) n))))
          ≡ cond (around place) (record { form = form; bar = bar } ∷ []) []
      by true e =
          ap (λ (t : Bool). cond t (met_at numbers bar a ∷ some_of (a + 1) n) (some_of (a + 1) n)) (ap (nat_eq form) own ∙ nat_eq_equiv.refl form)
          ∙ ap (λ (l : List Met). met_at numbers bar a ∷ l) none
          ∙ ap (λ (k : ℕ). record { form = k; bar = bar } ∷ []) own
          ∙ ap (λ (t : Bool). cond t (record { form = form; bar = bar } ∷ []) []) e
      by false e = none ∙ ap (λ (t : Bool). cond t (record { form = form; bar = bar } ∷ []) []) e

  pub one_of : (n a : ℕ) → a ≤ place → place < a + n → a + n ≤ length numbers → some_of a n ≡ cond (around place) (record { form = form; bar = bar } ∷ []) []
  one_of zero a low high within = absurd (omega (arith, low, high))
  one_of (suc n) a low high within = elim (cases_eq a place) [
    | inl is ↦ met_here n a is within
    | inr other ↦
        passed a n (λ same. other (others a (omega (arith, within)) same)) ∙ one_of n (a + 1) (omega (arith, low, other)) (omega (arith, high)) (omega (arith, within))
  ]

-- all bars
module _ (bars reads : List (List ℕ)) (numbers : List ℕ) (has : HasAll (length reads) numbers) (form : ℕ) (within : form < length reads) where
  abbrev place : ℕ
  place = (has.all form within).0

  place_less : place < length numbers
  place_less = (has.all form within).1

  here : get_or numbers place 0 ≡ form
  here = get_or_default numbers place 0 form place_less ∙ (has.all form within).2

  others : (k : ℕ) → k < length numbers → get_or numbers k 0 ≡ form → k ≡ place
  others k less same = elim (cases_eq k place) [
    | inl is ↦ is
    | inr other ↦ absurd (elim (cases_lt k place) [
      | inl before ↦ differ k place before place_less (same ∙ sym here)
      | inr after ↦ differ place k (omega (arith, after, other)) less (here ∙ sym same)
    ])
  ]
    where
      differ : (i j : ℕ) → i < j → j < length numbers → get_or numbers i 0 ≡ get_or numbers j 0 → ⊥
      differ i j before last is = (let no = apart_from_distinct nat_eq numbers i j 0 has.once before last in let yes = ap (nat_eq (get_or numbers i 0)) (sym is) ∙ nat_eq_equiv.refl (get_or numbers i 0) in
          let wrong : true ≡ false = sym yes ∙ no in cc)

  by_bar : (bar : ℕ) → of_form form (met_by bars reads numbers bar) ≡ cond (is_around (at bars bar) (at reads form)) (record { form = form; bar = bar } ∷ []) []
  by_bar bar =
      let size : length (all_at reads numbers) ≡ length numbers = length-map numbers (at reads) in
      let own : at (all_at reads numbers) place ≡ at reads form = get_or-map (at reads) numbers place 0 [] place_less ∙ ap (at reads) here in
      one_of numbers bar form place here others (λ k. is_around (at bars bar) (at (all_at reads numbers) k)) (length (all_at reads numbers)) 0 (omega arith) (omega (arith, size, place_less)) (omega (arith, size))
      ∙ ap (λ (l : List ℕ). cond (is_around (at bars bar) l) (record { form = form; bar = bar } ∷ []) []) own

  pub by_form : (some : List ℕ) → of_form form (flat_map (met_by bars reads numbers) some) ≡ with_bars form (filter (λ bar. is_around (at bars bar) (at reads form)) some)
  by_form [] = refl
  by_form (bar ∷ some) =
      filter-append (λ (x : Met). form == x.form) (met_by bars reads numbers bar) (flat_map (met_by bars reads numbers) some)
      ∙ ap₂ (λ (l r : List Met). l ++ r) (by_bar bar) (by_form some)
      ∙ by (is_around (at bars bar) (at reads form))
    where
      left : List ℕ
      left = filter (λ b. is_around (at bars b) (at reads form)) some

      by : (b : Bool) → cond b (record { form = form; bar = bar } ∷ []) [] ++ with_bars form left ≡ with_bars form (cond b (bar ∷ left) left)
      by true = refl
      by false = refl

  pub met_of_form : of_form form (met_in bars reads numbers) ≡ with_bars form (meeting bars (at reads form))
  met_of_form = by_form (range_with_len 0 (length bars))

-- what is met is a form

module _ (bars reads : List (List ℕ)) (numbers : List ℕ) (within : All (λ number. number < length reads) numbers) where
  pub all_forms : All (λ (x : Met). x.form < length reads) (met_in bars reads numbers)
  all_forms k d less =
      let found = met_in bars reads numbers in
      let x = get_or found k d in
      let met = from_met bars reads numbers x (k, less, get_or_default found k x d less) in
      subst (λ n. n < length reads) met.form.2 (within met.form.0 x.form met.form.1)
