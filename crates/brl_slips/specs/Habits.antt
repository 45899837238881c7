-- Habits: differences that are in four slips or more. The project's own.
use Rattle.std.specs.Prelude.{ℕ, ◌≡◌, ◌≤◌, ◌&&◌, All, Bool, true, false, List, [], ◌∷◌, Option, Some, count_by, find, flat_map, if◌then◌else◌, nat_eq, nat_le, slice_index}
use Rattle.std.specs.List.{list_any, position_or_len}
use Rattle.std.specs.List.Sorted.{IsSorted}
use Rattle.std.specs.Option.{option_map, option_map_or}
use Rattle.std.specs.Ordering.{flip_args, nat_cmp, on, then_cmp}
use Rattle.std.specs.declared.cmp.Ordering.{Ordering}
use Rattle.brl_slips.specs.Pieces.{cells_of}
use Rattle.brl_slips.specs.Slips.{piece_of}
use Rattle.brl_slips.specs.declared.fault.Fault.{Fault}
use Rattle.brl_slips.specs.declared.fault.Fault.TheVariants.{Exchanged, Missing, Replaced, TooMany, TwoReplaced}
use Rattle.brl_slips.specs.declared.habit.Difference.{Difference}
use Rattle.brl_slips.specs.declared.habit.Difference.TheVariants as kind
use Rattle.brl_slips.specs.declared.habit.Habit.{Habit}
use Rattle.brl_slips.specs.declared.lexicon.Lexicon.{Lexicon}
use Rattle.brl_slips.specs.declared.lexicon.Piece.{Piece}
use Rattle.brl_slips.specs.declared.slip.Slip.{Slip}

-- ---- The differences of a slip

-- whether two differences are the same
abbrev pub same : Difference → Difference → Bool
same (kind.Replaced is meant) (kind.Replaced other wanted) = nat_eq is other && nat_eq meant wanted
same kind.Exchanged kind.Exchanged = true
same (kind.TooMany cell) (kind.TooMany other) = nat_eq cell other
same (kind.Missing cell) (kind.Missing other) = nat_eq cell other
same one other = false

-- the cell of a rule at a place, and the one that was meant
abbrev pub replaced_at : List ℕ → List ℕ → ℕ → Difference
replaced_at cells spelled place = kind.Replaced (slice_index cells place) (slice_index spelled place)

-- two differences, or one where they are the same
abbrev pub both : Difference → Difference → List Difference
both one other = if same one other then one ∷ [] else one ∷ other ∷ []

-- the differences of a rule's cells from those of a spelling, by the fault
abbrev pub differences_by : Fault → List ℕ → List ℕ → List Difference
differences_by (Replaced place) cells spelled = replaced_at cells spelled place ∷ []
differences_by (Exchanged place) cells spelled = kind.Exchanged ∷ []
differences_by (TooMany place) cells spelled = kind.TooMany (slice_index cells place) ∷ []
differences_by (Missing place) cells spelled = kind.Missing (slice_index spelled place) ∷ []
differences_by (TwoReplaced first second) cells spelled =
    both (replaced_at cells spelled first) (replaced_at cells spelled second)

-- the cells that are spelled beside a slip
abbrev pub spelled_by : Lexicon → Slip → List ℕ
spelled_by lexicon slip = cells_of lexicon.pieces.items slip.spelling.items

-- the differences of a slip: those of its rule's cells; none where its rule has no piece
abbrev pub differences_of : Lexicon → Slip → List Difference
differences_of lexicon slip =
    option_map_or (λ (piece : Piece). differences_by slip.fault piece.cells (spelled_by lexicon slip))
    (piece_of lexicon slip.entry) []

-- whether a slip has a difference
abbrev pub has_difference : Lexicon → Difference → Slip → Bool
has_difference lexicon difference slip = list_any (same difference) (differences_of lexicon slip)

-- ---- Habits

-- in how many slips a difference is
abbrev pub slips_with : Lexicon → List Slip → Difference → ℕ
slips_with lexicon slips difference = count_by (has_difference lexicon difference) slips

-- whether a difference is a habit: it is in four slips or more
abbrev pub is_habit : Lexicon → List Slip → Difference → Bool
is_habit lexicon slips difference = nat_le 4 (slips_with lexicon slips difference)

-- the number of the first rule that has a difference
abbrev pub first_with : Lexicon → List Slip → Difference → Option ℕ
first_with lexicon slips difference =
    option_map (λ (slip : Slip). slip.entry) (find (has_difference lexicon difference) slips)

-- a habit comes with the number of the slips that have it, and the first rule that has it
pub record IsHabit (lexicon : Lexicon) (slips : List Slip) (habit : Habit) : Type 0 where
  pub often : 4 ≤ habit.count
  pub count : habit.count ≡ slips_with lexicon slips habit.difference
  pub entry : first_with lexicon slips habit.difference ≡ Some habit.entry

-- the place at which a difference is met first, among all those of slips
abbrev pub place_of : Lexicon → List Slip → Difference → ℕ
place_of lexicon slips difference = position_or_len (same difference) (flat_map (differences_of lexicon) slips)

-- the habit of more slips comes first, then the one that is met first
abbrev pub habit_cmp : Lexicon → List Slip → Habit → Habit → Ordering
habit_cmp lexicon slips =
    then_cmp (on (λ (habit : Habit). habit.count) (flip_args nat_cmp))
    (on (λ (habit : Habit). place_of lexicon slips habit.difference) nat_cmp)

-- how often a difference is among habits
abbrev pub times_in : List Habit → Difference → ℕ
times_in habits difference = count_by (λ (habit : Habit). same difference habit.difference) habits

-- these are the habits of slips: each difference that is one is there once, and no other, in order
pub record AreHabits (lexicon : Lexicon) (slips : List Slip) (habits : List Habit) : Type 0 where
  pub each : All (IsHabit lexicon slips) habits
  pub once : (difference : Difference)
      → times_in habits difference ≡ (if is_habit lexicon slips difference then 1 else 0)
  pub sorted : IsSorted (habit_cmp lexicon slips) habits
