-- The kinds of faults, and the wanted cells that find them.
use Rattle.std.proofs.Common.{◌≡◌, ◌≢◌, ◌≤◌, ◌<◌, ◌+◌, ℕ, zero, suc, Bool, true, false, cond, not, List, [], ◌∷◌, ◌++◌, map, Option, Some, None, refl, sym, ap, subst, ◌∙◌, arith, length, take, drop, get_or, set, length-set, nat_eq, eq-eqb, inl, inr, ext_get_or, get_or-set_same, get_or-set_other}
use Rattle.std.specs.List.{insert, remove, zip, count_by}
use Rattle.std.proofs.lemmas.Bool.{cases_eq, cases_lt, cases_order, ne_eqb}
use Rattle.std.proofs.lemmas.List.{length-map}
use Rattle.std.proofs.lemmas.List.Edits.{length-insert, length-remove}
use Rattle.brl_slips.specs.Slips.{IsFault}
use Rattle.brl_slips.specs.declared.fault.Fault.TheVariants.{Missing, Replaced, TwoReplaced}
use Rattle.std.proofs.lemmas.List.Sums.{sum_by-cons}
use Rattle.brl_slips.specs.Searching.{Fits, exactly, is_miss, misses_in}

-- what a cell adds to the misses
abbrev weight : Option ℕ → ℕ → ℕ
weight w c = cond (is_miss w c) 1 0

misses-cons : (w : Option ℕ) (ws : List (Option ℕ)) (c : ℕ) (cs : List ℕ) → misses_in (w ∷ ws) (c ∷ cs) ≡ weight w c + misses_in ws cs
misses-cons w ws c cs = sum_by-cons (λ (pair : Option ℕ × ℕ). cond (is_miss pair.0 pair.1) 1 0) (w, c) (zip ws cs)

-- a cell that is wanted isn't missed, and another is
hit : (c : ℕ) → weight (Some c) c ≡ 0
hit c = ap {B = ℕ} (λ b. cond (not b) 1 0) (eq-eqb c c refl)

miss : (c d : ℕ) → c ≢ d → weight (Some c) d ≡ 1
miss c d other = ap {B = ℕ} (λ b. cond (not b) 1 0) (ne_eqb c d other)

at_most_one : (c d : ℕ) → weight (Some c) d ≤ 1
at_most_one c d = elim (cases_eq c d) [ inl same ↦ subst (λ x. weight (Some c) x ≤ 1) same (omega (arith, hit c)) | inr other ↦ omega (arith, miss c d other) ]

-- cells that miss nothing are the wanted ones
pub no_miss : (cells spelled : List ℕ) → length spelled ≡ length cells → misses_in (exactly cells) spelled ≤ 0 → spelled ≡ cells
no_miss [] [] l few = refl
no_miss [] (s ∷ ss) l few = absurd (omega (arith, l))
no_miss (c ∷ cs) [] l few = absurd (omega (arith, l))
no_miss (c ∷ cs) (s ∷ ss) l few =
    elim (cases_eq c s) [
      | inl same ↦ ap (λ x. x ∷ ss) (sym same) ∙ ap (λ xs. c ∷ xs) (no_miss cs ss (omega (arith, l)) (omega (arith, few, misses-cons (Some c) (exactly cs) s ss)))
      | inr other ↦ absurd (omega (arith, few, misses-cons (Some c) (exactly cs) s ss, miss c s other))
    ]

pub none_missed : (cells : List ℕ) → misses_in (exactly cells) cells ≡ 0
none_missed [] = refl
none_missed (c ∷ cs) = omega (arith, misses-cons (Some c) (exactly cs) c cs, hit c, none_missed cs)

-- what is wanted, is missed at most once more where one cell is another
pub misses-set : (cells spelled : List ℕ) (p x : ℕ) → misses_in (exactly cells) (set spelled p x) ≤ misses_in (exactly cells) spelled + 1
misses-set [] [] p x = omega arith
misses-set [] (s ∷ ss) zero x = omega arith
misses-set [] (s ∷ ss) (suc p) x = omega arith
misses-set (c ∷ cs) [] p x = omega arith
misses-set (c ∷ cs) (s ∷ ss) zero x = omega (arith, misses-cons (Some c) (exactly cs) x ss, misses-cons (Some c) (exactly cs) s ss, at_most_one c x)
misses-set (c ∷ cs) (s ∷ ss) (suc p) x = omega (arith, misses-cons (Some c) (exactly cs) s (set ss p x), misses-cons (Some c) (exactly cs) s ss, misses-set cs ss p x)

-- a place that differs is missed
pub missed-one : (cells spelled : List ℕ) (p : ℕ) → length spelled ≡ length cells → p < length cells → get_or cells p 0 ≢ get_or spelled p 0 → 1 ≤ misses_in (exactly cells) spelled
missed-one [] spelled p l lt other = omega (arith, lt)
missed-one (c ∷ cs) [] p l lt other = omega (arith, l)
missed-one (c ∷ cs) (s ∷ ss) zero l lt other = omega (arith, misses-cons (Some c) (exactly cs) s ss, miss c s other)
missed-one (c ∷ cs) (s ∷ ss) (suc p) l lt other = omega (arith, misses-cons (Some c) (exactly cs) s ss, missed-one cs ss p (omega (arith, l)) (omega (arith, lt)) other)

pub missed-two : (cells spelled : List ℕ) (p q : ℕ) → length spelled ≡ length cells → p < q → q < length cells
    → get_or cells p 0 ≢ get_or spelled p 0 → get_or cells q 0 ≢ get_or spelled q 0 → 2 ≤ misses_in (exactly cells) spelled
missed-two [] spelled p q l order lt one other = omega (arith, lt)
missed-two (c ∷ cs) [] p q l order lt one other = omega (arith, l)
missed-two (c ∷ cs) (s ∷ ss) p zero l order lt one other = omega (arith, order)
missed-two (c ∷ cs) (s ∷ ss) zero (suc q) l order lt one other =
    omega (arith, misses-cons (Some c) (exactly cs) s ss, miss c s one, missed-one cs ss q (omega (arith, l)) (omega (arith, lt)) other)
missed-two (c ∷ cs) (s ∷ ss) (suc p) (suc q) l order lt one other =
    omega (arith, misses-cons (Some c) (exactly cs) s ss, missed-two cs ss p q (omega (arith, l)) (omega (arith, order)) (omega (arith, lt)) one other)

-- the head is the wanted one where all misses are in the rest
same_head : (c s : ℕ) (cs ss : List ℕ) (most : ℕ) → misses_in (exactly (c ∷ cs)) (s ∷ ss) ≤ most → most ≤ misses_in (exactly cs) ss → s ≡ c
same_head c s cs ss most few many =
    elim (cases_eq c s) [ inl same ↦ sym same | inr other ↦ absurd (omega (arith, few, many, misses-cons (Some c) (exactly cs) s ss, miss c s other)) ]

-- one miss is at the place that differs
pub one-miss : (cells spelled : List ℕ) (p : ℕ) → length spelled ≡ length cells → misses_in (exactly cells) spelled ≤ 1 → p < length cells
    → get_or cells p 0 ≢ get_or spelled p 0 → spelled ≡ set cells p (get_or spelled p 0)
one-miss [] spelled p l few lt other = absurd (omega (arith, lt))
one-miss (c ∷ cs) [] p l few lt other = absurd (omega (arith, l))
one-miss (c ∷ cs) (s ∷ ss) zero l few lt other =
    ap (λ xs. s ∷ xs) (no_miss cs ss (omega (arith, l)) (omega (arith, few, misses-cons (Some c) (exactly cs) s ss, miss c s other)))
one-miss (c ∷ cs) (s ∷ ss) (suc p) l few lt other =
    let many = missed-one cs ss p (omega (arith, l)) (omega (arith, lt)) other in
    ap (λ x. x ∷ ss) (same_head c s cs ss 1 few many)
    ∙ ap (λ xs. c ∷ xs) (one-miss cs ss p (omega (arith, l)) (omega (arith, few, misses-cons (Some c) (exactly cs) s ss)) (omega (arith, lt)) other)

-- two misses are at the places that differ
pub two-miss : (cells spelled : List ℕ) (p q : ℕ) → length spelled ≡ length cells → misses_in (exactly cells) spelled ≤ 2 → p < q → q < length cells
    → get_or cells p 0 ≢ get_or spelled p 0 → get_or cells q 0 ≢ get_or spelled q 0
    → spelled ≡ set (set cells p (get_or spelled p 0)) q (get_or spelled q 0)
two-miss [] spelled p q l few order lt one other = absurd (omega (arith, lt))
two-miss (c ∷ cs) [] p q l few order lt one other = absurd (omega (arith, l))
two-miss (c ∷ cs) (s ∷ ss) p zero l few order lt one other = absurd (omega (arith, order))
two-miss (c ∷ cs) (s ∷ ss) zero (suc q) l few order lt one other =
    ap (λ xs. s ∷ xs) (one-miss cs ss q (omega (arith, l)) (omega (arith, few, misses-cons (Some c) (exactly cs) s ss, miss c s one)) (omega (arith, lt)) other)
two-miss (c ∷ cs) (s ∷ ss) (suc p) (suc q) l few order lt one other =
    let many = missed-two cs ss p q (omega (arith, l)) (omega (arith, order)) (omega (arith, lt)) one other in
    ap (λ x. x ∷ ss) (same_head c s cs ss 2 few many)
    ∙ ap (λ xs. c ∷ xs) (two-miss cs ss p q (omega (arith, l)) (omega (arith, few, misses-cons (Some c) (exactly cs) s ss)) (omega (arith, order)) (omega (arith, lt)) one other)

-- where any cell is wanted at a place, the others are the wanted ones
pub gap-removed : (cells spelled : List ℕ) (p : ℕ) → p ≤ length cells → length spelled ≡ length cells + 1
    → misses_in (insert (exactly cells) p None) spelled ≤ 0 → cells ≡ remove spelled p
gap-removed cells [] p within l few = absurd (omega (arith, l))
gap-removed cells (s ∷ ss) zero within l few = sym (no_miss cells ss (omega (arith, l)) (omega (arith, few, misses-cons None (exactly cells) s ss)))
gap-removed [] (s ∷ ss) (suc p) within l few = absurd (omega (arith, within))
gap-removed (c ∷ cs) (s ∷ ss) (suc p) within l few =
    let e = misses-cons (Some c) (insert (exactly cs) p None) s ss in
    elim (cases_eq c s) [
      | inl same ↦ ap (λ x. x ∷ cs) same ∙ ap (λ xs. s ∷ xs) (gap-removed cs ss p (omega (arith, within)) (omega (arith, l)) (omega (arith, few, e)))
      | inr other ↦ absurd (omega (arith, few, e, miss c s other))
    ]

pub removed-gap : (spelled : List ℕ) (p : ℕ) → p < length spelled → misses_in (insert (exactly (remove spelled p)) p None) spelled ≡ 0
removed-gap [] p lt = omega (arith, lt)
removed-gap (s ∷ ss) zero lt = omega (arith, misses-cons None (exactly ss) s ss, none_missed ss)
removed-gap (s ∷ ss) (suc p) lt = omega (arith, misses-cons (Some s) (insert (exactly (remove ss p)) p None) s ss, hit s, removed-gap ss p (omega (arith, lt)))

-- ---- What fits, and the five kinds

pub exact-fits : (cells spelled : List ℕ) → spelled ≡ cells → Fits (exactly cells) 0 spelled
exact-fits cells spelled same = record {
  as_many = ap length same ∙ sym (length-map cells Some);
  few = subst (λ s. misses_in (exactly cells) s ≤ 0) (sym same) (omega (arith, none_missed cells));
}

pub fits-exact : (cells spelled : List ℕ) → Fits (exactly cells) 0 spelled → spelled ≡ cells
fits-exact cells spelled fits = no_miss cells spelled (fits.as_many ∙ length-map cells Some) fits.few

pub replaced-fits : (cells spelled : List ℕ) (p : ℕ) → IsFault (Replaced p) cells spelled → Fits (exactly cells) 1 spelled
replaced-fits cells spelled p fault = record {
  as_many = ap length fault.2 ∙ (length-set cells p (get_or spelled p 0) ∙ sym (length-map cells Some));
  few = subst (λ s. misses_in (exactly cells) s ≤ 1) (sym fault.2) (omega (arith, misses-set cells cells p (get_or spelled p 0), none_missed cells));
}

pub two-fits : (cells spelled : List ℕ) (p q : ℕ) → IsFault (TwoReplaced p q) cells spelled → Fits (exactly cells) 2 spelled
two-fits cells spelled p q fault =
    let one = set cells p (get_or spelled p 0) in
    record {
      as_many = ap length fault.4 ∙ (length-set one q (get_or spelled q 0) ∙ (length-set cells p (get_or spelled p 0) ∙ sym (length-map cells Some)));
      few = subst (λ s. misses_in (exactly cells) s ≤ 2) (sym fault.4)
          (omega (arith, misses-set cells one q (get_or spelled q 0), misses-set cells cells p (get_or spelled p 0), none_missed cells));
    }

pub gap-fits : (cells spelled : List ℕ) (p : ℕ) → IsFault (Missing p) cells spelled → Fits (insert (exactly cells) p None) 0 spelled
gap-fits cells spelled p fault =
    let lost = length-remove spelled p fault.0 in
    record {
      as_many = omega (arith, lost, ap length fault.1, length-insert (exactly cells) p None (omega (arith, lost, ap length fault.1, length-map cells Some, fault.0)), length-map cells Some);
      few = subst (λ cs. misses_in (insert (exactly cs) p None) spelled ≤ 0) (sym fault.1) (omega (arith, removed-gap spelled p fault.0));
    }

pub fits-gap : (cells spelled : List ℕ) (p : ℕ) → p ≤ length cells → Fits (insert (exactly cells) p None) 0 spelled → IsFault (Missing p) cells spelled
fits-gap cells spelled p within fits =
    let long : length spelled ≡ length cells + 1 = omega (arith, fits.as_many, length-insert (exactly cells) p None (omega (arith, within, length-map cells Some)), length-map cells Some) in
    (omega (arith, within, long), gap-removed cells spelled p within long fits.few)

-- cells that differ somewhere differ at the first place that was found
pub found-place : (cells spelled : List ℕ) (p : ℕ) → length spelled ≡ length cells → spelled ≢ cells → p ≤ length cells
    → ((k : ℕ) → 0 ≤ k → k < p → get_or cells k 0 ≡ get_or spelled k 0) → p < length cells
found-place cells spelled p long other within same =
    elim (cases_lt p (length cells)) [
      | inl lt ↦ lt
      | inr past ↦ absurd (other (ext_get_or 0 spelled cells long (λ k lt. sym (same k (omega arith) (omega (arith, lt, past, long))))))
    ]

pub found-replaced : (cells spelled : List ℕ) (p : ℕ) → Fits (exactly cells) 1 spelled → spelled ≢ cells → p ≤ length cells
    → ((k : ℕ) → 0 ≤ k → k < p → get_or cells k 0 ≡ get_or spelled k 0) → (p < length cells → get_or cells p 0 ≢ get_or spelled p 0) → IsFault (Replaced p) cells spelled
found-replaced cells spelled p fits other within same differs =
    let long : length spelled ≡ length cells = fits.as_many ∙ length-map cells Some in
    let lt = found-place cells spelled p long other within same in
    (lt, differs lt, one-miss cells spelled p long fits.few lt (differs lt))

-- where one cell alone differs, it is replaced
only-one : (cells spelled : List ℕ) (p q : ℕ) → length spelled ≡ length cells → p < length cells
    → ((k : ℕ) → 0 ≤ k → k < p → get_or cells k 0 ≡ get_or spelled k 0) → ((k : ℕ) → p + 1 ≤ k → k < q → get_or cells k 0 ≡ get_or spelled k 0) → length cells ≤ q
    → spelled ≡ set cells p (get_or spelled p 0)
only-one cells spelled p q long lt before after end =
    ext_get_or 0 spelled (set cells p (get_or spelled p 0)) (long ∙ sym (length-set cells p (get_or spelled p 0)))
    (λ k within. elim (cases_order k p) [
      | inl at ↦ ap (λ i. get_or spelled i 0) at ∙ (sym (get_or-set_same cells p (get_or spelled p 0) 0 lt) ∙ ap (λ i. get_or (set cells p (get_or spelled p 0)) i 0) (sym at))
      | inr apart ↦ elim apart [
        | inl less ↦ sym (before k (omega arith) less) ∙ sym (get_or-set_other cells p k (get_or spelled p 0) 0 (omega (arith, less)))
        | inr more ↦ sym (after k (omega (arith, more)) (omega (arith, within, long, end))) ∙ sym (get_or-set_other cells p k (get_or spelled p 0) 0 (omega (arith, more)))
      ]
    ])

pub found-two : (cells spelled : List ℕ) (p q : ℕ) → Fits (exactly cells) 2 spelled → spelled ≢ cells → (IsFault (Replaced p) cells spelled → ⊥)
    → p ≤ length cells → ((k : ℕ) → 0 ≤ k → k < p → get_or cells k 0 ≡ get_or spelled k 0) → (p < length cells → get_or cells p 0 ≢ get_or spelled p 0)
    → p + 1 ≤ q → q ≤ length cells → ((k : ℕ) → p + 1 ≤ k → k < q → get_or cells k 0 ≡ get_or spelled k 0) → (q < length cells → get_or cells q 0 ≢ get_or spelled q 0)
    → IsFault (TwoReplaced p q) cells spelled
found-two cells spelled p q fits other none within same differs order within2 same2 differs2 =
    let long : length spelled ≡ length cells = fits.as_many ∙ length-map cells Some in
    let lt = found-place cells spelled p long other within same in
    let lt2 : q < length cells = elim (cases_lt q (length cells)) [
      | inl lt ↦ lt
      | inr past ↦ absurd (none (lt, differs lt, only-one cells spelled p q long lt same same2 past))
    ] in
    (omega (arith, order), lt2, differs lt, differs2 lt2, two-miss cells spelled p q long fits.few (omega (arith, order)) lt2 (differs lt) (differs2 lt2))
