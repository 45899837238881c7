-- A worked machine: the letter a gives dot 1, and the letter b gives dot 1 and then dots 12. Its
-- state is whether a letter has been read, and both states are final.
use Rattle.std.specs.Prelude.{ℕ, Bool, true, false, ◌||◌, ◌==◌, if◌then◌else◌, List, [], ◌∷◌, Option, slice_get}
use Rattle.std.specs.List.{flat_map, list_all}
use Rattle.brl_pairs.specs.declared.step.Pair.{Pair}
use Rattle.brl_pairs.specs.declared.step.Step.{Step}
use Rattle.brl_pairs.specs.Runs.{Behaviour}

-- whether a character is a or b
abbrev pub is_letter : ℕ → Bool
is_letter c = (c == 97) || (c == 98)

-- the cells of a letter
abbrev pub cells_of_letter : ℕ → List ℕ
cells_of_letter c = if c == 97 then 1 ∷ [] else 1 ∷ 3 ∷ []

-- the step that reads a letter
abbrev pub letter_step : ℕ → ℕ → List ℕ → Step Bool
letter_step rule c cells = record { rule = rule; reads = c ∷ []; cells = cells; next = true }

-- the two steps, which are the same from both states
abbrev pub letter_steps : List (Step Bool)
letter_steps = letter_step 0 97 (1 ∷ []) ∷ letter_step 1 98 (1 ∷ 3 ∷ []) ∷ []

-- the machine
abbrev pub letters : Behaviour Bool
letters = record {
  start = false;
  steps = λ _. letter_steps;
  ends = λ _. true;
  is_text = list_all is_letter;
  translation = flat_map cells_of_letter;
}

-- its closed set of states: both
abbrev pub letter_states : ℕ → Option Bool
letter_states = slice_get (false ∷ true ∷ [])

-- the pair of a run that has read b and a run that has read a
abbrev pub b_before_a : Pair Bool
b_before_a = record { ahead = true; behind = true; lead = 3 ∷ [] }

-- its closed set of pairs: that one alone
abbrev pub letter_pairs : ℕ → Option (Pair Bool)
letter_pairs = slice_get (b_before_a ∷ [])

-- the pair of rules of the two steps
abbrev pub a_or_b : List (ℕ × ℕ)
a_or_b = (0, 1) ∷ []

-- no pair of runs, which is a closed set but for this pair of rules
abbrev pub no_pairs : ℕ → Option (Pair Bool)
no_pairs = slice_get []
