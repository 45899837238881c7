-- The habits of slips are those of the tallies of their cases, the most frequent first.
use Rattle.std.proofs.Common.{◌≡◌, ◌≤◌, ◌<◌, ◌+◌, ℕ, Bool, true, false, cond, not, List, [], ◌∷◌, ◌++◌, All, Some, map, sym, ap, ◌∙◌, arith, length, get_or, nat_le, nat_lt, inl, inr}
use Rattle.std.specs.List.{count_by, filter, flat_map, list_any, range_with_len, slice_get, AllByRecursion}
use Rattle.std.specs.List.Sorted.{IsNonDecreasingBy, IsPermutation, IsSorted, IsSortedBy, IsStableBy}
use Rattle.std.specs.Option.{option_map_or}
use Rattle.std.specs.Ordering.{is_lt, nat_cmp, ordering_then}
use Rattle.std.proofs.lemmas.Bool.{and_from, cases_Bool, cases_eq, cond-false, cond-true, leb-true, le-ltb, ltb-false, not_from_false}
use Rattle.std.proofs.lemmas.Bool.Decides.{nat_tests}
use Rattle.std.proofs.lemmas.Cmp.{nat_cmp_total}
use Rattle.std.proofs.lemmas.List.{get_or-map, length-map, map-id}
use Rattle.std.proofs.lemmas.List.Elements.{All-filter, All-map, filter-append, filter_passes, recursion_from_All}
use Rattle.std.proofs.lemmas.List.FromFn.{map-range_with_len_more}
use Rattle.std.proofs.lemmas.List.Kept.{IsNonDecreasingBy-filter}
use Rattle.std.proofs.lemmas.List.Sorted.{All-permutation, IsStrictWeakOrder-by_number, IsStrictWeakOrder-flip, ranks_by, sum_by-IsPermutation, ties_stay_sorted}
use Rattle.brl_slips.specs.Counting.{AreTallies, IsTally, cases_of, first_of, habit_of, is_among, is_of, is_often, tallied}
use Rattle.brl_slips.specs.Habits.{AreHabits, IsHabit, habit_cmp, is_habit, place_of, same, slips_with}
use Rattle.brl_slips.specs.Shown.{is_kept, is_kept_at}
use Rattle.brl_slips.specs.declared.habit.Difference.{Difference}
use Rattle.brl_slips.specs.declared.habit.Habit.{Habit}
use Rattle.brl_slips.specs.declared.habit.Tally.{Tally}
use Rattle.brl_slips.specs.declared.lexicon.Lexicon.{Lexicon}
use Rattle.brl_slips.specs.declared.slip.Slip.{Slip}
use Rattle.brl_slips.proofs.CasesOfSlips.{count-cases, first-cases, place-cases}
use Rattle.brl_slips.proofs.Counted.{count_by-cons, count_by-map, count_by_none, list_any_once}
use Rattle.brl_slips.proofs.Differing.{same_is}

-- the habits of tallies, in the order of these
abbrev often_of : List Tally → List Habit
often_of tallies = map habit_of (filter is_often tallies)

-- ---- Each habit

often-each : (lexicon : Lexicon) (slips : List Slip) (tallies : List Tally) → All (IsTally (flat_map (cases_of lexicon) slips)) tallies → All (IsHabit lexicon slips) (often_of tallies)
often-each lexicon slips tallies each =
    let cases = flat_map (cases_of lexicon) slips in
    All-map (IsHabit lexicon slips) habit_of (filter is_often tallies) (λ k d lt.
    let tally = get_or (filter is_often tallies) k d in
    let is : IsTally cases tally = All-filter is_often (IsTally cases) tallies each k d lt in
    let habit : IsHabit lexicon slips (habit_of tally) = record {
      often = leb-true 4 tally.count (filter_passes is_often tallies k d lt);
      count = is.count ∙ count-cases lexicon slips tally.difference;
      entry = sym (first-cases lexicon slips tally.difference) ∙ is.entry;
    } in
    habit)

-- ---- Once

abbrev has : Difference → Tally → Bool
has difference tally = same difference tally.difference

count-often : (lexicon : Lexicon) (slips : List Slip) (difference : Difference) (tallies : List Tally) → AllByRecursion (IsTally (flat_map (cases_of lexicon) slips)) tallies
    → count_by (has difference) (filter is_often tallies) ≡ cond (is_habit lexicon slips difference) (count_by (has difference) tallies) 0
count-often lexicon slips difference [] each = elim (cases_Bool (is_habit lexicon slips difference)) [
  | inl is ↦ sym (cond-true (is_habit lexicon slips difference) 0 0 is)
  | inr isnt ↦ sym (cond-false (is_habit lexicon slips difference) 0 0 isnt)
]
count-often lexicon slips difference (tally ∷ tallies) each =
    let p = has difference in
    let habit = is_habit lexicon slips difference in
    let more = count-often lexicon slips difference tallies each.1 in
    elim (cases_Bool (p tally)) [
      | inl is ↦
          let one : tally.difference ≡ difference = sym (same_is difference tally.difference is) in
          let counted : tally.count ≡ slips_with lexicon slips difference = each.0.count ∙ (count-cases lexicon slips tally.difference ∙ ap (slips_with lexicon slips) one) in
          let often : is_often tally ≡ habit = ap (nat_le 4) counted in
          elim (cases_Bool habit) [
            | inl frequent ↦ omega (
              arith,
              ap (count_by p) (cond-true (is_often tally) (tally ∷ filter is_often tallies) (filter is_often tallies) (often ∙ frequent)),
              count_by-cons p tally (filter is_often tallies),
              count_by-cons p tally tallies,
              more,
              cond-true habit (count_by p tallies) 0 frequent,
              cond-true habit (count_by p (tally ∷ tallies)) 0 frequent,
            )
            | inr rare ↦ omega (
              arith,
              ap (count_by p) (cond-false (is_often tally) (tally ∷ filter is_often tallies) (filter is_often tallies) (often ∙ rare)),
              more,
              cond-false habit (count_by p tallies) 0 rare,
              cond-false habit (count_by p (tally ∷ tallies)) 0 rare,
            )
          ]
      | inr isnt ↦
          let nothing : count_by p (tally ∷ tallies) ≡ count_by p tallies = omega (arith, count_by-cons p tally tallies, ap {B = ℕ} (λ b. cond b 1 0) isnt) in
          let kept : count_by p (filter is_often (tally ∷ tallies)) ≡ count_by p (filter is_often tallies) = elim (cases_Bool (is_often tally)) [
            | inl frequent ↦ ap (count_by p) (cond-true (is_often tally) (tally ∷ filter is_often tallies) (filter is_often tallies) frequent)
                ∙ omega (arith, count_by-cons p tally (filter is_often tallies), ap {B = ℕ} (λ b. cond b 1 0) isnt)
            | inr rare ↦ ap (count_by p) (cond-false (is_often tally) (tally ∷ filter is_often tallies) (filter is_often tallies) rare)
          ] in
          kept ∙ (more ∙ ap (λ n. cond habit n 0) (sym nothing))
    ]

often-once : (lexicon : Lexicon) (slips : List Slip) (tallies : List Tally) → AreTallies (flat_map (cases_of lexicon) slips) tallies → (difference : Difference)
    → count_by (λ (habit : Habit). same difference habit.difference) (often_of tallies) ≡ cond (is_habit lexicon slips difference) 1 0
often-once lexicon slips tallies are difference =
    let cases = flat_map (cases_of lexicon) slips in
    let habit = is_habit lexicon slips difference in
    let there : count_by (has difference) tallies ≡ cond (list_any (is_of difference) cases) 1 0 =
    sym (count_by-map (λ (tally : Tally). tally.difference) (same difference) tallies) ∙ are.once difference in
    count_by-map habit_of (λ (h : Habit). same difference h.difference) (filter is_often tallies)
    ∙ (count-often lexicon slips difference tallies (recursion_from_All (IsTally cases) tallies are.each)
    ∙ elim (cases_Bool habit) [
      | inl frequent ↦
          let four : 4 ≤ slips_with lexicon slips difference = leb-true 4 (slips_with lexicon slips difference) frequent in
          let met : list_any (is_of difference) cases ≡ true = elim (cases_Bool (list_any (is_of difference) cases)) [
            | inl some ↦ some
            | inr none ↦ absurd (omega (arith, four, count-cases lexicon slips difference, count_by_none (is_of difference) cases none))
          ] in
          cond-true habit (count_by (has difference) tallies) 0 frequent ∙ (there ∙ (cond-true (list_any (is_of difference) cases) 1 0 met ∙ sym (cond-true habit 1 0 frequent)))
      | inr rare ↦ cond-false habit (count_by (has difference) tallies) 0 rare ∙ sym (cond-false habit 1 0 rare)
    ])

-- ---- In order

-- by the places at which differences are met
abbrev place_in : Lexicon → List Slip → Habit → ℕ
place_in lexicon slips habit = place_of lexicon slips habit.difference

often-sorted : (lexicon : Lexicon) (slips : List Slip) (tallies : List Tally) → IsNonDecreasingBy (first_of (flat_map (cases_of lexicon) slips)) (tallied tallies)
    → IsSortedBy (λ x y. nat_lt (place_in lexicon slips x) (place_in lexicon slips y)) (often_of tallies)
often-sorted lexicon slips tallies sorted =
    let cases = flat_map (cases_of lexicon) slips in
    let place : Tally → ℕ = λ tally. first_of cases tally.difference in
    let tallies-rise : IsNonDecreasingBy place tallies = λ i j d order lt.
    let far = sorted i j d.difference order (omega (arith, lt, length-map tallies (λ (tally : Tally). tally.difference))) in
    omega (
      arith,
      far,
      ap (first_of cases) (get_or-map (λ (tally : Tally). tally.difference) tallies i d d.difference (omega (arith, order, lt))),
      ap (first_of cases) (get_or-map (λ (tally : Tally). tally.difference) tallies j d d.difference lt),
    ) in
    let often = filter is_often tallies in
    let rise : IsNonDecreasingBy place often = IsNonDecreasingBy-filter place is_often tallies tallies-rise in
    λ k d low lt.
    let e : Tally = record { difference = d.difference; count = d.count; entry = d.entry } in
    let within : k + 1 < length often = omega (arith, lt, length-map often habit_of) in
    le-ltb (place_in lexicon slips (get_or (often_of tallies) (k + 1) d)) (place_in lexicon slips (get_or (often_of tallies) k d)) (omega (
      arith,
      rise k (k + 1) e (omega arith) within,
      place-cases lexicon slips (get_or often k e).difference,
      place-cases lexicon slips (get_or often (k + 1) e).difference,
      ap (place_in lexicon slips) (get_or-map habit_of often k e d (omega (arith, within))),
      ap (place_in lexicon slips) (get_or-map habit_of often (k + 1) e d within),
    ))

-- what compares as not less
not-less : (m n : ℕ) → is_lt (nat_cmp m n) ≡ false → n ≤ m
not-less m n e = grind (arith, nat_tests)

less-not : (m n : ℕ) → n ≤ m → is_lt (nat_cmp m n) ≡ false
less-not m n le = grind (arith, nat_tests)

then-not-less : (m n a b : ℕ) → n ≤ m → (m ≡ n → b ≤ a) → is_lt (ordering_then (nat_cmp m n) (nat_cmp a b)) ≡ false
then-not-less m n a b le then = elim (cases_eq m n) [
  | inl same ↦ (let second = less-not a b (then same) in grind (arith, nat_tests))
  | inr other ↦ grind (arith, nat_tests)
]

-- the habit of more slips is before
abbrev pub more_first : Habit → Habit → Bool
more_first x y = is_lt (nat_cmp y.count x.count)

sorted-stably : (lexicon : Lexicon) (slips : List Slip) (old new : List Habit) → IsSortedBy (λ x y. nat_lt (place_in lexicon slips x) (place_in lexicon slips y)) old
    → IsSortedBy more_first new → IsStableBy more_first old new → IsSorted (habit_cmp lexicon slips) new
sorted-stably lexicon slips old new by_place sorted stable = λ k d low lt.
    let one = get_or new k d in
    let next = get_or new (k + 1) d in
    let counts : next.count ≤ one.count = not-less one.count next.count (sorted k d low lt) in
    then-not-less one.count next.count (place_in lexicon slips next) (place_in lexicon slips one) counts (λ same.
    ltb-false (place_in lexicon slips next) (place_in lexicon slips one)
    (ties_stay_sorted (λ x y. nat_lt (place_in lexicon slips x) (place_in lexicon slips y)) more_first
    (IsStrictWeakOrder-by_number (place_in lexicon slips)) (IsStrictWeakOrder-flip _ (ranks_by nat_cmp_total (λ (habit : Habit). habit.count)))
    old new by_place stable k d lt
    (and_from (not (more_first one next)) (not (more_first next one))
    (not_from_false (more_first one next) (less-not next.count one.count (omega (arith, same))))
    (not_from_false (more_first next one) (sorted k d low lt)))))

-- ---- All of it

pub habits-are : (lexicon : Lexicon) (slips : List Slip) (tallies : List Tally) (habits : List Habit) → AreTallies (flat_map (cases_of lexicon) slips) tallies
    → IsPermutation (map habit_of (filter is_often tallies)) habits → IsSortedBy more_first habits → IsStableBy more_first (map habit_of (filter is_often tallies)) habits
    → AreHabits lexicon slips habits
habits-are lexicon slips tallies habits are moved sorted stable = record {
  each = All-permutation (IsHabit lexicon slips) (often_of tallies) habits moved (often-each lexicon slips tallies are.each);
  once = λ difference. sum_by-IsPermutation (λ (habit : Habit). cond (same difference habit.difference) 1 0) (often_of tallies) habits moved ∙ often-once lexicon slips tallies are difference;
  sorted = sorted-stably lexicon slips (often_of tallies) habits (often-sorted lexicon slips tallies are.sorted) sorted stable;
}

-- ---- The slips that are kept

-- just the habits are among them
pub any-habit : (lexicon : Lexicon) (slips : List Slip) (habits : List Habit) → AreHabits lexicon slips habits → (differences : List Difference)
    → list_any (is_among habits) differences ≡ list_any (is_habit lexicon slips) differences
any-habit lexicon slips habits are differences =
    let each : (difference : Difference) → is_among habits difference ≡ is_habit lexicon slips difference =
    λ difference. list_any_once (λ (habit : Habit). same difference habit.difference) habits (is_habit lexicon slips difference) (are.once difference) in
    λ i. list_any (λ difference. each difference i) differences

-- the kept numbers among the first ones
abbrev pub kept_below : Lexicon → List Slip → ℕ → List ℕ
kept_below lexicon slips end = filter (is_kept_at lexicon slips) (range_with_len 0 end)

-- one more
pub kept-more : (lexicon : Lexicon) (slips : List Slip) (number : ℕ) (slip : Slip) → slice_get slips number ≡ Some slip
    → kept_below lexicon slips (number + 1) ≡ kept_below lexicon slips number ++ cond (is_kept lexicon slips slip) (number ∷ []) []
kept-more lexicon slips number slip at =
    let range : range_with_len 0 (number + 1) ≡ range_with_len 0 number ++ number ∷ [] =
    sym (map-id (range_with_len 0 (number + 1))) ∙ (map-range_with_len_more (λ (k : ℕ). k) 0 number number (omega arith) ∙ ap (λ ks. ks ++ number ∷ []) (map-id (range_with_len 0 number))) in
    ap (filter (is_kept_at lexicon slips)) range
    ∙ (filter-append (is_kept_at lexicon slips) (range_with_len 0 number) (number ∷ [])
    ∙ ap (λ o. kept_below lexicon slips number ++ cond (option_map_or (is_kept lexicon slips) o false) (number ∷ []) []) at)
