-- The tallies of cases, case by case.
use Rattle.std.proofs.Common.{◌≡◌, ◌≤◌, ◌<◌, ◌+◌, ℕ, Bool, true, false, cond, ◌||◌, ◌-◌, not, List, [], ◌∷◌, ◌++◌, All, Option, Some, None, refl, sym, ap, subst, ◌∙◌, arith, length, get_or, set, nat_eq, nat_lt, inl, inr, get_or-set_same, get_or-set_other}
use Rattle.std.specs.List.{count_by, find, list_any, position, position_or_len}
use Rattle.std.specs.List.Sorted.{IsNonDecreasingBy}
use Rattle.std.specs.Option.{option_map, option_or}
use Rattle.std.proofs.Math.Seq.{map-set_same}
use Rattle.std.proofs.lemmas.Bool.{cases_Bool, cases_eq, cases_lt, cond-false, cond-true, ne_eqb, eq-eqb, lt-ltb, both_ways, false_from_ne_true, not_from_false, or_left, or_right}
use Rattle.std.proofs.lemmas.List.{get_or-map, length-map, length-set, map_push}
use Rattle.std.proofs.lemmas.List.Elements.{All-map, All-push, All-weaker}
use Rattle.std.proofs.lemmas.List.Folds.{Any-from_list_any, find-append, find_at, list_any-append, list_any_at, position_or_len_push}
use Rattle.std.proofs.lemmas.List.Sorted.{IsNonDecreasingBy-push}
use Rattle.std.proofs.lemmas.List.Sums.{fails_before_first, sum_by_push}
use Rattle.std.proofs.lemmas.Option.{slice_get_past}
use Rattle.brl_slips.specs.Counting.{AreTallies, IsTally, first_of, is_of, tallied}
use Rattle.brl_slips.specs.Habits.{same}
use Rattle.brl_slips.specs.declared.habit.Case.{Case}
use Rattle.brl_slips.specs.declared.habit.Difference.{Difference}
use Rattle.brl_slips.specs.declared.habit.Tally.{Tally}
use Rattle.brl_slips.proofs.Counted.{count_by_none, list_any-map, list_any_once, one-place}
use Rattle.brl_slips.proofs.Differing.{same-itself, same-turned, same_is}

abbrev entry_of : Case → ℕ
entry_of case = case.entry

abbrev difference_of : Tally → Difference
difference_of tally = tally.difference

-- one case more counts where it is one of the difference
count-more : (cases : List Case) (case : Case) (difference : Difference) → count_by (is_of difference) (cases ++ case ∷ []) ≡ count_by (is_of difference) cases + cond (same difference case.difference) 1 0
count-more cases case difference = sum_by_push (λ x. cond (is_of difference x) 1 0) cases case

or-false : (b : Bool) → (b || false) ≡ b
or-false true = refl
or-false false = refl

-- it is the first where none was
any-more : (cases : List Case) (case : Case) (difference : Difference) → list_any (is_of difference) (cases ++ case ∷ []) ≡ (list_any (is_of difference) cases || same difference case.difference)
any-more cases case difference = list_any-append (is_of difference) cases (case ∷ []) ∙ ap (λ b. list_any (is_of difference) cases || b) (or-false (same difference case.difference))

-- what was found first stays
pub first-stays : (one other : Option Case) (entry : ℕ) → option_map entry_of one ≡ Some entry → option_map entry_of (option_or one other) ≡ Some entry
first-stays (Some case) other entry is = is
first-stays None other entry is = cc

-- where a first case was found, its place is one
found-within : (p : Case → Bool) (cases : List Case) (entry : ℕ) → option_map entry_of (find p cases) ≡ Some entry → position_or_len p cases < length cases
found-within p cases entry is = elim (cases_lt (position_or_len p cases) (length cases)) [
  | inl within ↦ within
  | inr past ↦
      let none : find p cases ≡ None = find_at p cases ∙ slice_get_past cases (position_or_len p cases) past in
      let found : option_map entry_of (find p cases) ≡ None = ap (option_map entry_of) none in
      cc
]

-- and stays
place-stays : (cases : List Case) (case : Case) (difference : Difference) → first_of cases difference < length cases → first_of (cases ++ case ∷ []) difference ≡ first_of cases difference
place-stays cases case difference within =
    let place = first_of cases difference in
    position_or_len_push (is_of difference) cases case ∙ cond-false (nat_eq place (length cases)) (length cases + cond (is_of difference case) 0 1) place (ne_eqb place (length cases) (λ e. omega (arith, e, within)))

-- the differences of tallies were met
met : (cases : List Case) (tallies : List Tally) → All (IsTally cases) tallies → All (λ difference. first_of cases difference < length cases) (tallied tallies)
met cases tallies each =
    All-map (λ difference. first_of cases difference < length cases) difference_of tallies
    (All-weaker (IsTally cases) (λ tally. first_of cases tally.difference < length cases) (λ tally is. found-within (is_of tally.difference) cases tally.entry is.entry) tallies each)

-- one case more doesn't change their order
sorted-more : (cases : List Case) (case : Case) (differences : List Difference) → All (λ difference. first_of cases difference < length cases) differences
    → IsNonDecreasingBy (first_of cases) differences → IsNonDecreasingBy (first_of (cases ++ case ∷ [])) differences
sorted-more cases case differences within sorted = λ i j d order lt. omega (
  arith,
  sorted i j d order lt,
  place-stays cases case (get_or differences i d) (within i d (omega (arith, order, lt))),
  place-stays cases case (get_or differences j d) (within j d lt),
)

-- a tally of another difference stays right
tally-stays : (cases : List Case) (case : Case) (tally : Tally) → IsTally cases tally → same tally.difference case.difference ≡ false → IsTally (cases ++ case ∷ []) tally
tally-stays cases case tally is other = record {
  count = is.count ∙ omega (arith, count-more cases case tally.difference, ap {B = ℕ} (λ b. cond b 1 0) other);
  entry = ap (option_map entry_of) (find-append (is_of tally.difference) cases (case ∷ [])) ∙ first-stays (find (is_of tally.difference) cases) (find (is_of tally.difference) (case ∷ [])) tally.entry is.entry;
}

-- the tally of the case's difference is counted up
tally-counted : (cases : List Case) (case : Case) (tally new : Tally) → IsTally cases tally → same tally.difference case.difference ≡ true
    → new.difference ≡ tally.difference → new.count ≡ tally.count + 1 → new.entry ≡ tally.entry → IsTally (cases ++ case ∷ []) new
tally-counted cases case tally new is one difference count entry = record {
  count = count ∙ omega (arith, is.count, ap (λ d. count_by (is_of d) (cases ++ case ∷ [])) difference, count-more cases case tally.difference, ap {B = ℕ} (λ b. cond b 1 0) one);
  entry = ap (λ d. option_map entry_of (find (is_of d) (cases ++ case ∷ []))) difference
      ∙ (ap (option_map entry_of) (find-append (is_of tally.difference) cases (case ∷ []))
      ∙ (first-stays (find (is_of tally.difference) cases) (find (is_of tally.difference) (case ∷ [])) tally.entry is.entry ∙ ap Some (sym entry)));
}

-- a first case has a tally of its own
tally-first : (cases : List Case) (case : Case) → list_any (is_of case.difference) cases ≡ false → IsTally (cases ++ case ∷ []) (record { difference = case.difference; count = 1; entry = case.entry })
tally-first cases case none = record {
  count = omega (arith, count-more cases case case.difference, count_by_none (is_of case.difference) cases none, ap {B = ℕ} (λ b. cond b 1 0) (same-itself case.difference));
  entry =
      let p = is_of case.difference in
      let before : find p cases ≡ None = find-none p cases none in
      ap (option_map entry_of) (find-append p cases (case ∷ []) ∙ (ap (λ o. option_or o (find p (case ∷ []))) before ∙ cond-true (p case) (Some case) None (same-itself case.difference)));
}
  where
    find-none : (p : Case → Bool) (xs : List Case) → list_any p xs ≡ false → find p xs ≡ None
    find-none p [] none = refl
    find-none p (x ∷ xs) none = elim (cases_Bool (p x)) [
      | inl is ↦ cc
      | inr isnt ↦ cond-false (p x) (Some x) (find p xs) isnt ∙ find-none p xs (sym (ap (λ b. b || list_any p xs) isnt) ∙ none)
    ]

-- ---- A case more

-- once or not at all is at most once
few : (b : Bool) → cond b 1 0 ≤ 1
few true = omega arith
few false = omega arith

-- a difference has a tally where a case has it
pub any-tallied : (cases : List Case) (tallies : List Tally) → AreTallies cases tallies → (difference : Difference) → list_any (same difference) (tallied tallies) ≡ list_any (is_of difference) cases
any-tallied cases tallies are difference = list_any_once (same difference) (tallied tallies) (list_any (is_of difference) cases) (are.once difference)

-- the tallies after a case, where one of them has its difference
pub tallies-counted : (cases : List Case) (case : Case) (tallies : List Tally) (place : ℕ) (old new : Tally) → AreTallies cases tallies
    → place < length tallies → get_or tallies place old ≡ old → same case.difference old.difference ≡ true
    → new.difference ≡ old.difference → new.count ≡ old.count + 1 → new.entry ≡ old.entry → AreTallies (cases ++ case ∷ []) (set tallies place new)
tallies-counted cases case tallies place old new are within at one difference count entry =
    let this = case.difference in
    let as-it-was : tallied (set tallies place new) ≡ tallied tallies = map-set_same difference_of tallies place new old (difference ∙ sym (ap difference_of at)) in
    let here : get_or (tallied tallies) place this ≡ old.difference = get_or-map difference_of tallies place old this within ∙ ap difference_of at in
    let here-one : same this (get_or (tallied tallies) place this) ≡ true = ap (same this) here ∙ one in
    let here-within : place < length (tallied tallies) = omega (arith, within, length-map tallies difference_of) in
    let old-one : same old.difference this ≡ true = subst (λ d. same d this ≡ true) (same_is this old.difference one) (same-itself this) in
    record {
      each = λ k d lt. elim (cases_eq k place) [
        | inl same-place ↦
            subst (IsTally (cases ++ case ∷ [])) (sym (ap (λ i. get_or (set tallies place new) i d) same-place ∙ get_or-set_same tallies place new d within))
            (tally-counted cases case old new (subst (IsTally cases) at (are.each place old within)) old-one difference count entry)
        | inr other ↦
            let inside : k < length tallies = omega (arith, lt, length-set tallies place new) in
            let tally = get_or tallies k d in
            let not-one : same tally.difference this ≡ false = false_from_ne_true (same tally.difference this) (λ is. other
            (one-place (same this) (tallied tallies) k place this (subst (λ n. n ≤ 1) (sym (are.once this)) (few (list_any (is_of this) cases)))
            (omega (arith, inside, length-map tallies difference_of)) here-within
            (ap (same this) (get_or-map difference_of tallies k d this inside ∙ same_is tally.difference this is) ∙ same-itself this) here-one)) in
            subst (IsTally (cases ++ case ∷ [])) (sym (get_or-set_other tallies place k new d other)) (tally-stays cases case tally (are.each k d inside) not-one)
      ];
      once = λ d.
          let met-before : list_any (is_of d) (cases ++ case ∷ []) ≡ list_any (is_of d) cases = any-more cases case d ∙ elim (cases_Bool (same d this)) [
            | inl is ↦
                let known : list_any (is_of d) cases ≡ true = sym (any-tallied cases tallies are d)
                ∙ list_any_at (same d) (tallied tallies) place this here-within (subst (λ x. same x (get_or (tallied tallies) place this) ≡ true) (sym (same_is d this is)) here-one) in
                or_left (list_any (is_of d) cases) (same d this) known ∙ sym known
            | inr isnt ↦ ap (λ b. list_any (is_of d) cases || b) isnt ∙ or-false (list_any (is_of d) cases)
          ] in
          ap (count_by (same d)) as-it-was ∙ (are.once d ∙ ap {B = ℕ} (λ b. cond b 1 0) (sym met-before));
      sorted = subst (IsNonDecreasingBy (first_of (cases ++ case ∷ []))) (sym as-it-was) (sorted-more cases case (tallied tallies) (met cases tallies are.each) are.sorted);
    }

-- where none passes, the first place is the end
place-none : (p : Case → Bool) (xs : List Case) → list_any p xs ≡ false → position_or_len p xs ≡ length xs
place-none p [] none = refl
place-none p (x ∷ xs) none = elim (cases_Bool (p x)) [
  | inl is ↦ cc
  | inr isnt ↦
      let rest = place-none p xs (sym (ap (λ b. b || list_any p xs) isnt) ∙ none) in
      cond-true (not (p x)) (1 + position_or_len p xs) 0 (not_from_false (p x) isnt) ∙ omega (arith, rest)
]

-- the tallies after the first case of a difference
pub tallies-first : (cases : List Case) (case : Case) (tallies : List Tally) → AreTallies cases tallies
    → list_any (λ (tally : Tally). same case.difference tally.difference) tallies ≡ false
    → AreTallies (cases ++ case ∷ []) (tallies ++ record { difference = case.difference; count = 1; entry = case.entry } ∷ [])
tallies-first cases case tallies are none =
    let this = case.difference in
    let new : Tally = record { difference = this; count = 1; entry = case.entry } in
    let untold : list_any (same this) (tallied tallies) ≡ false = list_any-map difference_of (same this) tallies ∙ none in
    let unmet : list_any (is_of this) cases ≡ false = sym (any-tallied cases tallies are this) ∙ untold in
    let pushed : tallied (tallies ++ new ∷ []) ≡ tallied tallies ++ this ∷ [] = map_push difference_of tallies new in
    let last : first_of (cases ++ case ∷ []) this ≡ length cases =
    position_or_len_push (is_of this) cases case
    ∙ (cond-true (nat_eq (first_of cases this) (length cases)) (length cases + cond (is_of this case) 0 1) (first_of cases this) (eq-eqb (first_of cases this) (length cases) (place-none (is_of this) cases unmet))
    ∙ omega (arith, ap {B = ℕ} (λ b. cond b 0 1) (same-itself this))) in
    record {
      each = All-push (IsTally (cases ++ case ∷ [])) tallies new
          (λ k d lt.
          let tally = get_or tallies k d in
          tally-stays cases case tally (are.each k d lt) (same-turned this tally.difference (false_from_ne_true (same this tally.difference) (λ is. both_ways _ none (list_any_at (λ (t : Tally). same this t.difference) tallies k d lt is)))))
          (tally-first cases case unmet);
      once = λ d.
          ap (count_by (same d)) pushed
          ∙ (sum_by_push (λ x. cond (same d x) 1 0) (tallied tallies) this
          ∙ (ap (λ n. n + cond (same d this) 1 0) (are.once d)
          ∙ (elim (cases_Bool (same d this)) [
            | inl is ↦
                let before : list_any (is_of d) cases ≡ false = subst (λ x. list_any (is_of x) cases ≡ false) (sym (same_is d this is)) unmet in
                omega (arith, ap {B = ℕ} (λ b. cond b 1 0) is, ap {B = ℕ} (λ b. cond b 1 0) before, ap {B = ℕ} (λ b. cond b 1 0) (or_right (list_any (is_of d) cases) (same d this) is))
            | inr isnt ↦
                omega (arith, ap {B = ℕ} (λ b. cond b 1 0) isnt, ap {B = ℕ} (λ b. cond (list_any (is_of d) cases || b) 1 0) isnt, ap {B = ℕ} (λ b. cond b 1 0) (or-false (list_any (is_of d) cases)))
          ]
          ∙ ap {B = ℕ} (λ b. cond b 1 0) (sym (any-more cases case d)))));
      sorted = subst (IsNonDecreasingBy (first_of (cases ++ case ∷ []))) (sym pushed)
          (IsNonDecreasingBy-push (first_of (cases ++ case ∷ [])) (tallied tallies) this (sorted-more cases case (tallied tallies) (met cases tallies are.each) are.sorted)
          (λ d some.
          let end = length (tallied tallies) - 1 in
          let within = met cases tallies are.each end d (omega (arith, some)) in
          omega (arith, last, within, place-stays cases case (get_or (tallied tallies) end d) within)));
    }

-- no tally has a difference that has no place among them
pub nowhere : (p : Tally → Bool) (xs : List Tally) → position p xs ≡ None → list_any p xs ≡ false
nowhere p xs none = false_from_ne_true (list_any p xs) (λ is.
    let any = Any-from_list_any p xs is in
    let first : position_or_len p xs ≤ any.0 = elim (cases_lt any.0 (position_or_len p xs)) [
      | inl before ↦ absurd (both_ways (p any.1) (sym (ap p any.3) ∙ fails_before_first p xs any.0 any.1 before) any.4)
      | inr after ↦ after
    ] in
    let place = position_or_len p xs in
    let some : position p xs ≡ Some place = cond-true (nat_lt place (length xs)) (Some place) None (lt-ltb place (length xs) (omega (arith, first, any.2))) in
    cc)
