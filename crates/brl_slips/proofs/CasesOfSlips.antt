-- The cases of slips: what is counted of them is counted of the slips.
use Rattle.std.proofs.Common.{◌≡◌, ℕ, true, false, cond, ◌||◌, List, [], ◌∷◌, ◌++◌, Option, Some, None, map, refl, sym, ap, subst, ◌∙◌, arith, inl, inr}
use Rattle.std.specs.List.{count_by, find, flat_map, list_any, position_or_len}
use Rattle.std.specs.Option.{option_map, option_map_or, option_or}
use Rattle.std.proofs.lemmas.Bool.{both_ways, cases_Bool, cond-false, cond-true}
use Rattle.std.proofs.lemmas.List.{map-append}
use Rattle.std.proofs.lemmas.List.Folds.{find-append}
use Rattle.std.proofs.lemmas.List.Sums.{sum_by-append}
use Rattle.brl_slips.specs.Counting.{case_of, cases_of, first_of, is_of}
use Rattle.brl_slips.specs.Habits.{both, differences_by, differences_of, has_difference, place_of, replaced_at, same, slips_with}
use Rattle.brl_slips.specs.Pieces.{cells_of}
use Rattle.brl_slips.specs.Slips.{piece_of}
use Rattle.brl_slips.specs.declared.fault.Fault.{Fault}
use Rattle.brl_slips.specs.declared.fault.Fault.TheVariants.{Exchanged, Missing, Replaced, TooMany, TwoReplaced}
use Rattle.brl_slips.specs.declared.habit.Case.{Case}
use Rattle.brl_slips.specs.declared.habit.Difference.{Difference}
use Rattle.brl_slips.specs.declared.habit.Difference.TheVariants as kind
use Rattle.brl_slips.specs.declared.lexicon.Lexicon.{Lexicon}
use Rattle.brl_slips.specs.declared.lexicon.Piece.{Piece}
use Rattle.brl_slips.specs.declared.slip.Slip.{Slip}
use Rattle.brl_slips.proofs.Counted.{count_by-cons, count_by-map, position_or_len-map}
use Rattle.brl_slips.proofs.Differing.{same_is}
use Rattle.brl_slips.proofs.Tallying.{first-stays}

-- ---- Each difference of a slip is there once

abbrev IsOnce : Difference → List Difference → Type 0
IsOnce difference differences = count_by (same difference) differences ≡ cond (list_any (same difference) differences) 1 0

-- one
one-once : (difference one : Difference) → IsOnce difference (one ∷ [])
one-once difference one = elim (cases_Bool (same difference one)) [
  | inl is ↦ omega (arith, count_by-cons (same difference) one [], ap {B = ℕ} (λ b. cond b 1 0) is, ap {B = ℕ} (λ b. cond (b || false) 1 0) is)
  | inr isnt ↦ omega (arith, count_by-cons (same difference) one [], ap {B = ℕ} (λ b. cond b 1 0) isnt, ap {B = ℕ} (λ b. cond (b || false) 1 0) isnt)
]

-- two that aren't the same
two-once : (difference one other : Difference) → same one other ≡ false → IsOnce difference (one ∷ other ∷ [])
two-once difference one other apart = elim (cases_Bool (same difference one)) [
  | inl is ↦ elim (cases_Bool (same difference other)) [
    | inl also ↦ absurd (both_ways (same one other) apart (subst (λ d. same d other ≡ true) (same_is difference one is) also))
    | inr isnt ↦ omega (
      arith,
      count_by-cons (same difference) one (other ∷ []),
      one-once difference other,
      ap {B = ℕ} (λ b. cond b 1 0) is,
      ap {B = ℕ} (λ b. cond (b || false) 1 0) isnt,
      ap {B = ℕ} (λ b. cond (b || (same difference other || false)) 1 0) is,
    )
  ]
  | inr isnt ↦ omega (
    arith,
    count_by-cons (same difference) one (other ∷ []),
    one-once difference other,
    ap {B = ℕ} (λ b. cond b 1 0) isnt,
    ap {B = ℕ} (λ b. cond (b || (same difference other || false)) 1 0) isnt,
  )
]

both-once : (difference one other : Difference) → IsOnce difference (both one other)
both-once difference one other = elim (cases_Bool (same one other)) [
  | inl is ↦ subst (IsOnce difference) (sym (cond-true (same one other) (one ∷ []) (one ∷ other ∷ []) is)) (one-once difference one)
  | inr isnt ↦ subst (IsOnce difference) (sym (cond-false (same one other) (one ∷ []) (one ∷ other ∷ []) isnt)) (two-once difference one other isnt)
]

by-once : (difference : Difference) (fault : Fault) (cells spelled : List ℕ) → IsOnce difference (differences_by fault cells spelled)
by-once difference (Replaced place) cells spelled = one-once difference (replaced_at cells spelled place)
by-once difference (Exchanged place) cells spelled = one-once difference kind.Exchanged
by-once difference (TooMany place) cells spelled = one-once difference _
by-once difference (Missing place) cells spelled = one-once difference _
by-once difference (TwoReplaced first second) cells spelled = both-once difference (replaced_at cells spelled first) (replaced_at cells spelled second)

if-once : (difference : Difference) (differences : Piece → List Difference) → ((piece : Piece) → IsOnce difference (differences piece)) → (piece : Option Piece) → IsOnce difference (option_map_or differences piece [])
if-once difference differences each None = refl
if-once difference differences each (Some piece) = each piece

slip-once : (lexicon : Lexicon) (slip : Slip) (difference : Difference) → IsOnce difference (differences_of lexicon slip)
slip-once lexicon slip difference =
    if-once difference (λ piece. differences_by slip.fault piece.cells (cells_of lexicon.pieces.items slip.spelling.items))
    (λ piece. by-once difference slip.fault piece.cells (cells_of lexicon.pieces.items slip.spelling.items)) (piece_of lexicon slip.entry)

-- ---- The cases of slips

-- there are as many cases of a difference as slips with it
pub count-cases : (lexicon : Lexicon) (slips : List Slip) (difference : Difference) → count_by (is_of difference) (flat_map (cases_of lexicon) slips) ≡ slips_with lexicon slips difference
count-cases lexicon [] difference = refl
count-cases lexicon (slip ∷ slips) difference = omega (
  arith,
  sum_by-append (λ (case : Case). cond (is_of difference case) 1 0) (cases_of lexicon slip) (flat_map (cases_of lexicon) slips),
  count_by-map (case_of slip.entry) (is_of difference) (differences_of lexicon slip),
  slip-once lexicon slip difference,
  count-cases lexicon slips difference,
  count_by-cons (has_difference lexicon difference) slip slips,
)

abbrev entry_of : Case → ℕ
entry_of case = case.entry

abbrev rule_of : Slip → ℕ
rule_of slip = slip.entry

-- a difference that is there has a case of the rule
case-there : (entry : ℕ) (difference : Difference) (differences : List Difference) → list_any (same difference) differences ≡ true
    → option_map entry_of (find (is_of difference) (map (case_of entry) differences)) ≡ Some entry
case-there entry difference [] some = cc
case-there entry difference (one ∷ more) some = elim (cases_Bool (same difference one)) [
  | inl is ↦ ap (option_map entry_of) (cond-true (same difference one) (Some (case_of entry one)) (find (is_of difference) (map (case_of entry) more)) is)
  | inr isnt ↦
      ap (option_map entry_of) (cond-false (same difference one) (Some (case_of entry one)) (find (is_of difference) (map (case_of entry) more)) isnt)
      ∙ case-there entry difference more (sym (ap (λ b. b || list_any (same difference) more) isnt) ∙ some)
]

-- one that isn't has none
case-none : (entry : ℕ) (difference : Difference) (differences : List Difference) → list_any (same difference) differences ≡ false
    → find (is_of difference) (map (case_of entry) differences) ≡ None
case-none entry difference [] none = refl
case-none entry difference (one ∷ more) none = elim (cases_Bool (same difference one)) [
  | inl is ↦ cc
  | inr isnt ↦
      cond-false (same difference one) (Some (case_of entry one)) (find (is_of difference) (map (case_of entry) more)) isnt
      ∙ case-none entry difference more (sym (ap (λ b. b || list_any (same difference) more) isnt) ∙ none)
]

-- the first case of a difference has the rule of the first slip with it
pub first-cases : (lexicon : Lexicon) (slips : List Slip) (difference : Difference)
    → option_map entry_of (find (is_of difference) (flat_map (cases_of lexicon) slips)) ≡ option_map rule_of (find (has_difference lexicon difference) slips)
first-cases lexicon [] difference = refl
first-cases lexicon (slip ∷ slips) difference =
    let here = find (is_of difference) (cases_of lexicon slip) in
    let later = find (is_of difference) (flat_map (cases_of lexicon) slips) in
    let has = has_difference lexicon difference slip in
    let rest = find (has_difference lexicon difference) slips in
    ap (option_map entry_of) (find-append (is_of difference) (cases_of lexicon slip) (flat_map (cases_of lexicon) slips))
    ∙ elim (cases_Bool has) [
      | inl is ↦
          first-stays here later slip.entry (case-there slip.entry difference (differences_of lexicon slip) is)
          ∙ sym (ap (option_map rule_of) (cond-true has (Some slip) rest is))
      | inr isnt ↦
          ap (λ o. option_map entry_of (option_or o later)) (case-none slip.entry difference (differences_of lexicon slip) isnt)
          ∙ (first-cases lexicon slips difference ∙ sym (ap (option_map rule_of) (cond-false has (Some slip) rest isnt)))
    ]

abbrev difference_of : Case → Difference
difference_of case = case.difference

cases-back : (entry : ℕ) (differences : List Difference) → map difference_of (map (case_of entry) differences) ≡ differences
cases-back entry [] = refl
cases-back entry (one ∷ more) = ap (λ ds. one ∷ ds) (cases-back entry more)

-- the differences of cases are those of the slips
differences-cases : (lexicon : Lexicon) (slips : List Slip) → map difference_of (flat_map (cases_of lexicon) slips) ≡ flat_map (differences_of lexicon) slips
differences-cases lexicon [] = refl
differences-cases lexicon (slip ∷ slips) =
    map-append difference_of (cases_of lexicon slip) (flat_map (cases_of lexicon) slips)
    ∙ (ap (λ ds. ds ++ map difference_of (flat_map (cases_of lexicon) slips)) (cases-back slip.entry (differences_of lexicon slip))
    ∙ ap (λ ds. differences_of lexicon slip ++ ds) (differences-cases lexicon slips))

-- a difference has the place of its first case
pub place-cases : (lexicon : Lexicon) (slips : List Slip) (difference : Difference) → first_of (flat_map (cases_of lexicon) slips) difference ≡ place_of lexicon slips difference
place-cases lexicon slips difference =
    sym (position_or_len-map difference_of (same difference) (flat_map (cases_of lexicon) slips)) ∙ ap (position_or_len (same difference)) (differences-cases lexicon slips)
