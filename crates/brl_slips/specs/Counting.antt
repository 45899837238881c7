-- Internal. What the counting of differences keeps.
use Rattle.std.specs.Prelude.{ℕ, ◌≡◌, ◌<◌, ◌+◌, ◌^◌, ◌++◌, ◌∷◌, [], All, Bool, List, Some, count_by, find, if◌then◌else◌, length, map, nat_le}
use Rattle.std.specs.List.{list_any, position_or_len}
use Rattle.std.specs.List.Sorted.{IsNonDecreasingBy}
use Rattle.std.specs.Option.{option_map}
use Rattle.brl_slips.specs.Habits.{differences_of, same}
use Rattle.brl_slips.specs.declared.habit.Case.{Case}
use Rattle.brl_slips.specs.declared.habit.Difference.{Difference}
use Rattle.brl_slips.specs.declared.habit.Habit.{Habit}
use Rattle.brl_slips.specs.declared.habit.Tally.{Tally}
use Rattle.brl_slips.specs.declared.lexicon.Lexicon.{Lexicon}
use Rattle.brl_slips.specs.declared.slip.Slip.{Slip}

-- the case of a difference at a rule
abbrev pub case_of : ℕ → Difference → Case
case_of entry difference = record { difference = difference; entry = entry }

-- the cases of a slip
abbrev pub cases_of : Lexicon → Slip → List Case
cases_of lexicon slip = map (case_of slip.entry) (differences_of lexicon slip)

-- whether a case is one of a difference
abbrev pub is_of : Difference → Case → Bool
is_of difference case = same difference case.difference

-- the place of the first case of a difference
abbrev pub first_of : List Case → Difference → ℕ
first_of cases difference = position_or_len (is_of difference) cases

-- a tally has the number of the cases of its difference, and the rule of the first of them
pub record IsTally (cases : List Case) (tally : Tally) : Type 0 where
  pub count : tally.count ≡ count_by (is_of tally.difference) cases
  pub entry : option_map (λ (case : Case). case.entry) (find (is_of tally.difference) cases) ≡ Some tally.entry

-- the differences of tallies
abbrev pub tallied : List Tally → List Difference
tallied tallies = map (λ (tally : Tally). tally.difference) tallies

-- these are the tallies of cases: each difference of a case has one, in the order of the first ones
pub record AreTallies (cases : List Case) (tallies : List Tally) : Type 0 where
  pub each : All (IsTally cases) tallies
  pub once : (difference : Difference)
      → count_by (same difference) (tallied tallies) ≡ (if list_any (is_of difference) cases then 1 else 0)
  pub sorted : IsNonDecreasingBy (first_of cases) (tallied tallies)

-- a case is counted: tallies of the cases before it are now those of it too
abbrev pub IsCounted : Case → List Tally → List Tally → Type 0
IsCounted case old new =
    (cases : List Case) → length cases + 1 < 2 ^ 64 → AreTallies cases old → AreTallies (cases ++ case ∷ []) new

-- whether there are four cases or more
abbrev pub is_often : Tally → Bool
is_often tally = nat_le 4 tally.count

-- the habit of a tally
abbrev pub habit_of : Tally → Habit
habit_of tally = record { difference = tally.difference; count = tally.count; entry = tally.entry }

-- whether a difference is that of one of these habits
abbrev pub is_among : List Habit → Difference → Bool
is_among habits difference = list_any (λ (habit : Habit). same difference habit.difference) habits
