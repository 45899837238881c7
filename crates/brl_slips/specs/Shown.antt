-- Which slips are shown. The project's own.
use Rattle.std.specs.Prelude.{ℕ, Bool, false, List, filter, length, not, slice_get}
use Rattle.std.specs.List.{list_any, range_with_len}
use Rattle.std.specs.Option.{option_map_or}
use Rattle.brl_slips.specs.Habits.{differences_of, is_habit}
use Rattle.brl_slips.specs.declared.lexicon.Lexicon.{Lexicon}
use Rattle.brl_slips.specs.declared.slip.Slip.{Slip}

-- whether a slip is kept: none of its differences is a habit
abbrev pub is_kept : Lexicon → List Slip → Slip → Bool
is_kept lexicon slips slip = not (list_any (is_habit lexicon slips) (differences_of lexicon slip))

-- whether that with a number is
abbrev pub is_kept_at : Lexicon → List Slip → ℕ → Bool
is_kept_at lexicon slips number = option_map_or (is_kept lexicon slips) (slice_get slips number) false

-- the numbers of the slips that are kept, in ascending order
abbrev pub kept_of : Lexicon → List Slip → List ℕ
kept_of lexicon slips = filter (is_kept_at lexicon slips) (range_with_len 0 (length slips))
