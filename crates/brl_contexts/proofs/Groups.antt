-- What is met, group by group: each form with its bars.
use Rattle.std.proofs.Common.{◌≡◌, ◌≢◌, ◌∙◌, ℕ, zero, suc, ◌+◌, ◌-◌, ◌<◌, ◌≤◌, Bool, List, [], ◌∷◌, Some, ap, arith, cond, get_or, inl, inr, length, map, nat_eq, refl, slice_get, subst, sym}
use Rattle.std.proofs.lemmas.Bool.{cases_eq, cases_lt}
use Rattle.std.proofs.lemmas.List.{get_or_past}
use Rattle.std.proofs.lemmas.Option.{get_or_from_slice_get, slice_get_within}
use Rattle.std.specs.Cmp.{nat_eq_equiv}
use Rattle.brl_contexts.specs.Met.{AreBarsAt, AreMetByForm, with_bars}
use Rattle.brl_contexts.specs.declared.met.Met.{Met}
use Rattle.brl_contexts.proofs.ByForm.{eqb-no, of_form}
use Rattle.brl_pairs.specs.Based.{meeting}
use Rattle.brl_pairs.specs.Order.{at}
use Rattle.brl_pairs.proofs.Lists.{inside, same_place}

-- the form at a place; past the end the number of forms
abbrev pub bound_of : List Met → ℕ → ℕ → ℕ
bound_of met from count = (get_or met from (record { form = count; bar = 0 })).form

-- none of a list has the form
pub none_of_form : (form : ℕ) (met : List Met) → ((i : ℕ) (x : Met) → slice_get met i ≡ Some x → x.form ≢ form) → of_form form met ≡ []
none_of_form form [] none = refl
none_of_form form (x ∷ met) none = ap (λ b. cond b (x ∷ of_form form met) (of_form form met)) (eqb-no form x.form (λ is. none 0 x refl (sym is))) ∙ none_of_form form met (λ i y at. none (suc i) y at)

-- no bars meet a form that isn't met
pub no_bars : (form : ℕ) (bars : List ℕ) → with_bars form bars ≡ [] → bars ≡ []
no_bars form [] is = refl
no_bars form (b ∷ bars) is = cc

-- the bars of a form that has them
bars_back : (form : ℕ) (bars : List ℕ) → map (λ (x : Met). x.bar) (with_bars form bars) ≡ bars
bars_back form [] = refl
bars_back form (b ∷ bars) = ap (λ (l : List ℕ). b ∷ l) (bars_back form bars)

-- those of a form, where they are from a place on
run_of : (form : ℕ) (found : List Met) (from : ℕ) (bars : List ℕ) → ((i : ℕ) (x : Met) → i < from → slice_get found i ≡ Some x → x.form ≢ form)
    → ((k bar : ℕ) → slice_get bars k ≡ Some bar → slice_get found (from + k) ≡ Some (record { form = form; bar = bar }))
    → ((i : ℕ) (x : Met) → from + length bars ≤ i → slice_get found i ≡ Some x → x.form ≢ form) → of_form form found ≡ with_bars form bars
run_of form [] from [] early each late = refl
run_of form [] from (b ∷ bars) early each late = (let wrong = each 0 b refl in cc)
run_of form (x ∷ found) zero [] early each late = none_of_form form (x ∷ found) (λ i y at. late i y (omega arith) at)
run_of form (x ∷ found) zero (b ∷ bars) early each late =
    let here : slice_get (x ∷ found) 0 ≡ Some (record { form = form; bar = b }) = ap (slice_get (x ∷ found)) (let e : 0 ≡ 0 + 0 = omega arith in e) ∙ each 0 b refl in
    let is : x ≡ record { form = form; bar = b } = cc in
    ap (λ (y : Met). cond (nat_eq form y.form) (y ∷ of_form form found) (of_form form found)) is
    ∙ ap (λ (t : Bool). cond t (record { form = form; bar = b } ∷ of_form form found) (of_form form found)) (nat_eq_equiv.refl form)
    ∙ ap (λ (l : List Met). record { form = form; bar = b } ∷ l)
    (run_of form found 0 bars (λ i y less at. absurd (omega (arith, less)))
    (λ k bar at. ap (slice_get (x ∷ found)) (let e : suc (0 + k) ≡ 0 + suc k = omega arith in e) ∙ each (suc k) bar at)
    (λ i y far at. late (suc i) y (omega (arith, far)) at))
run_of form (x ∷ found) (suc n) bars early each late =
    ap (λ (t : Bool). cond t (x ∷ of_form form found) (of_form form found)) (eqb-no form x.form (λ is. early 0 x (omega arith) refl (sym is)))
    ∙ run_of form found n bars (λ i y less at. early (suc i) y (omega (arith, less)) at)
    (λ k bar at. ap (slice_get (x ∷ found)) (let e : suc (n + k) ≡ suc n + k = omega arith in e) ∙ each k bar at)
    (λ i y far at. late (suc i) y (omega (arith, far)) at)

-- ---- The group at a place

module _ (bars reads : List (List ℕ)) (met : List Met) (are : AreMetByForm bars reads met) where
  -- forms ascend
  forms_ascend : (i j : ℕ) (x y : Met) → i ≤ j → slice_get met i ≡ Some x → slice_get met j ≡ Some y → x.form ≤ y.form
  forms_ascend i j x y le x_at y_at =
      let within = slice_get_within met j y y_at in
      let up = are.ascending i j x le within in
      let one = ap (λ (z : Met). z.form) (get_or_from_slice_get met i x x x_at) in
      let other = ap (λ (z : Met). z.form) (get_or_from_slice_get met j y x y_at) in
      omega (arith, up, one, other)

  pub form_within : (i : ℕ) (x : Met) → slice_get met i ≡ Some x → x.form < length reads
  form_within i x at = subst (λ (z : Met). z.form < length reads) (get_or_from_slice_get met i x x at) (are.within i x (slice_get_within met i x at))

  -- the bound at a place
  bound_here : (i : ℕ) (x : Met) → slice_get met i ≡ Some x → bound_of met i (length reads) ≡ x.form
  bound_here i x at = ap (λ (z : Met). z.form) (get_or_from_slice_get met i x _ at)

  pub bound_within : (i : ℕ) → bound_of met i (length reads) ≤ length reads
  bound_within i = elim (cases_lt i (length met)) [
    | inl less ↦ (let x = inside met i less in let here = bound_here i x.0 x.1 in let within = form_within i x.0 x.1 in omega (arith, here, within))
    | inr past ↦ (let end = ap (λ (z : Met). z.form) (get_or_past met i (record { form = length reads; bar = 0 }) past) in omega (arith, end))
  ]

  -- none that comes later is of a lesser form
  pub later_forms : (i j : ℕ) (y : Met) → i ≤ j → slice_get met j ≡ Some y → bound_of met i (length reads) ≤ y.form
  later_forms i j y le y_at =
      let within = slice_get_within met j y y_at in
      let x = inside met i (omega (arith, le, within)) in
      let here = bound_here i x.0 x.1 in
      let up = forms_ascend i j x.0 y le x.1 y_at in
      omega (arith, here, up)

  module _ (from : ℕ) (some : List ℕ) (here : AreBarsAt met from some) (passed : (i : ℕ) (x : Met) → i < from → slice_get met i ≡ Some x → x.form < bound_of met from (length reads)) where
    pub first_at : (bar : ℕ) × (slice_get met from ≡ Some (record { form = here.form; bar = bar }))
    first_at = (let b = inside some 0 here.some in (b.0, ap (slice_get met) (let e : from ≡ from + 0 = omega arith in e) ∙ here.each 0 b.0 b.1))

    pub own_form : bound_of met from (length reads) ≡ here.form
    own_form = bound_here from (record { form = here.form; bar = first_at.0 }) first_at.1

    -- after the group forms are greater
    after_group : (i : ℕ) (x : Met) → from + length some ≤ i → slice_get met i ≡ Some x → here.form < x.form
    after_group i x far x_at =
        let within = slice_get_within met i x x_at in
        let y = inside met (from + length some) (omega (arith, far, within)) in
        let up = forms_ascend from (from + length some) (record { form = here.form; bar = first_at.0 }) y.0 (omega arith) first_at.1 y.1 in
        let more = forms_ascend (from + length some) i y.0 x far y.1 x_at in
        let differ = here.next y.0 y.1 in
        elim (cases_eq y.0.form here.form) [ inl is ↦ absurd (differ is) | inr other ↦ omega (arith, up, more, other) ]

    pub group_bars : some ≡ meeting bars (at reads here.form)
    group_bars =
        let early : (i : ℕ) (x : Met) → i < from → slice_get met i ≡ Some x → x.form ≢ here.form = λ i x less x_at is. (let before = passed i x less x_at in omega (arith, before, own_form, is)) in
        let late : (i : ℕ) (x : Met) → from + length some ≤ i → slice_get met i ≡ Some x → x.form ≢ here.form = λ i x far x_at is. (let after = after_group i x far x_at in omega (arith, after, is)) in
        let run = run_of here.form met from some early here.each late in
        let all = are.each here.form (form_within from (record { form = here.form; bar = first_at.0 }) first_at.1) in
        sym (bars_back here.form some) ∙ ap (map (λ (x : Met). x.bar)) (sym run ∙ all) ∙ bars_back here.form (meeting bars (at reads here.form))

    -- the next bound is greater, and what is passed is below it
    pub next_bound : here.form < bound_of met (from + length some) (length reads)
    next_bound = elim (cases_lt (from + length some) (length met)) [
      | inl less ↦ (let x = inside met (from + length some) less in let is = bound_here (from + length some) x.0 x.1 in let after = after_group (from + length some) x.0 (omega arith) x.1 in omega (arith, is, after))
      | inr past ↦ (
          let end = ap (λ (z : Met). z.form) (get_or_past met (from + length some) (record { form = length reads; bar = 0 }) past) in
          let within = form_within from (record { form = here.form; bar = first_at.0 }) first_at.1 in omega (arith, end, within))
    ]

    pub still_passed : (i : ℕ) (x : Met) → i < from + length some → slice_get met i ≡ Some x → x.form < bound_of met (from + length some) (length reads)
    still_passed i x less x_at = elim (cases_lt i from) [
      | inl before ↦ (let early = passed i x before x_at in omega (arith, early, own_form, next_bound))
      | inr not_before ↦ (
          let k : from + (i - from) ≡ i = omega (arith, not_before) in
          let b = inside some (i - from) (omega (arith, less, not_before)) in
          let own = same_place met i x (record { form = here.form; bar = b.0 }) x_at (ap (slice_get met) (sym k) ∙ here.each (i - from) b.0 b.1) in
          let is = ap (λ (z : Met). z.form) own in omega (arith, is, next_bound))
    ]

    -- no bar meets a form between
    pub none_between : (form : ℕ) → here.form < form → form < bound_of met (from + length some) (length reads) → meeting bars (at reads form) ≡ []
    none_between form more less =
        let within = bound_within (from + length some) in
        let none = none_of_form form met (λ i x x_at is. elim (cases_lt i from) [
          | inl before ↦ (let early = passed i x before x_at in omega (arith, early, own_form, more, is))
          | inr not_before ↦ elim (cases_lt i (from + length some)) [
            | inl inside_it ↦ (
                let k : from + (i - from) ≡ i = omega (arith, not_before) in
                let b = inside some (i - from) (omega (arith, inside_it, not_before)) in
                let own = same_place met i x (record { form = here.form; bar = b.0 }) x_at (ap (slice_get met) (sym k) ∙ here.each (i - from) b.0 b.1) in
                let own_is = ap (λ (z : Met). z.form) own in omega (arith, own_is, more, is))
            | inr later ↦ (let up = later_forms (from + length some) i x later x_at in omega (arith, up, less, is))
          ]
        ]) in
        no_bars form (meeting bars (at reads form)) (sym (are.each form (omega (arith, less, within))) ∙ none)

  -- and none meets a form before the first group
  pub none_first : (form : ℕ) → form < bound_of met 0 (length reads) → meeting bars (at reads form) ≡ []
  none_first form less =
      let within = bound_within 0 in
      let none = none_of_form form met (λ i x x_at is. let up = later_forms 0 i x (omega arith) x_at in omega (arith, up, less, is)) in
      no_bars form (meeting bars (at reads form)) (sym (are.each form (omega (arith, less, within))) ∙ none)
