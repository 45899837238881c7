-- Runs of capitals, as the machine needs them: which texts of capitals a rule may have in a run,
-- and what must follow some characters so that they begin in a run, or out of one. The project's
-- own choice.
use Rattle.std.specs.Prelude.{ℕ, Bool, true, false, not, ◌&&◌, ◌==◌, List, [], ◌∷◌, Option, Some, None, filter, map, if◌then◌else◌}
use Rattle.std.specs.List.{flat_map}
use Rattle.std.specs.Map.{keys_of}
use Rattle.brl_rules.specs.declared.class.Class.{Class}
use Rattle.brl_rules.specs.declared.place.Cond.{Cond}
use Rattle.brl_rules.specs.declared.place.Cond.TheVariants.{Any, Meets, Avoids}
use Rattle.brl_rules.specs.Places.{uppercase}
use Rattle.brl_rules.specs.TableView.{TableView}
use Rattle.brl_rules.specs.Text.{classes_of, fold_of, has_word_capitals, is_capital}

-- ---- Choices of capitals

-- the characters of a table, in the order of their definitions
abbrev pub letters : TableView → List ℕ
letters t = keys_of t.characters

-- whether a character of a table is a capital
abbrev pub is_upper : TableView → ℕ → Bool
is_upper t c = is_capital (classes_of t c)

-- the capitals of a table, in the order of their definitions
abbrev pub capitals : TableView → List ℕ
capitals t = filter (is_upper t) (letters t)

-- a capital before each of these texts, where it folds to this character
abbrev pub put_capital : TableView → ℕ → List (List ℕ) → ℕ → List (List ℕ)
put_capital t a texts c = if a == fold_of t c then map (λ text. c ∷ text) texts else []

-- the texts of capitals whose folds are these characters: in a run of capitals a rule with these
-- characters takes one of them
abbrev pub choices : TableView → List ℕ → List (List ℕ)
choices t [] = [] ∷ []
choices t (a ∷ chars) = flat_map (put_capital t a (choices t chars)) (capitals t)

-- ---- What must follow

-- whether two flags are the same
abbrev pub alike : Bool → Bool → Bool
alike true b = b
alike false b = not b

-- no condition, where this is so
abbrev pub any_if : Bool → Option Cond
any_if true = Some Any
any_if false = None

-- what must follow a capital and these characters so that the capital is in a run of capitals, or
-- isn't, where the character before it is no capital
abbrev pub further_by : TableView → Bool → List ℕ → Option Cond
further_by t true [] = Some (Meets uppercase)
further_by t false [] = Some (Avoids uppercase)
further_by t run (d ∷ others) = any_if (alike run (is_upper t d))

-- what must follow these characters so that they begin in a run of capitals, or out of one, after a
-- character of these classes: a condition on the next character, and none where they can't
abbrev pub further : TableView → Class → Bool → List ℕ → Option Cond
further t before run [] = None
further t before run (c ∷ others) =
    if has_word_capitals t && is_upper t c
    then (if is_capital before then any_if run else further_by t run others)
    else any_if (not run)
