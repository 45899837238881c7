-- Which rule is chosen at the start of a rest of a text. The manual, section "Translation Opcodes":
-- at each position the most eligible entry is used. That only the first character of a rule is
-- compared without case, and in a run of capitals each, is this project's own choice.
use Rattle.std.specs.Prelude.{ℕ, ◌≡◌, ◌+◌, Bool, false, ◌&&◌, nat_eq, Option, Some, None, List, [], ◌∷◌, length, if◌then◌else◌, slice_get}
use Rattle.std.specs.List.{starts_with}
use Rattle.std.specs.Option.{option_map_or}
use Rattle.brl_rules.specs.declared.choice.Choice.{Choice as Lent}
use Rattle.brl_rules.specs.declared.class.Class.{Class}
use Rattle.brl_rules.specs.declared.rule.Rule.{Rule}
use Rattle.brl_rules.specs.TableView.{TableView, info_of}
use Rattle.brl_rules.specs.Places.{holds, before_of, after_of}
use Rattle.brl_rules.specs.Text.{fold_of, classes_at, classes_of, is_capital, is_defined, is_in_caps_run}

-- the folds of the capitals with which a rest begins, up to the first character that isn't one
abbrev pub folds_of_capitals : TableView → List ℕ → List ℕ
folds_of_capitals t [] = []
folds_of_capitals t (c ∷ rest) = if is_capital (classes_of t c) then fold_of t c ∷ folds_of_capitals t rest else []

-- what the characters of a rule are compared with at the start of a rest: the fold of its first
-- character, and after it in a run of capitals the folds of the capitals that follow, else the
-- rest's own characters
abbrev pub compared : TableView → Bool → List ℕ → List ℕ
compared t run [] = []
compared t run (c ∷ rest) = fold_of t c ∷ (if run then folds_of_capitals t rest else rest)

-- the rest, in a run of capitals or not, begins with a rule's characters
abbrev pub matches : TableView → Bool → List ℕ → List ℕ → Bool
matches t run rest [] = false
matches t run rest (first ∷ others) = starts_with nat_eq (compared t run rest) (first ∷ others)

-- a rule fits: the rest begins with its characters, and the neighbours meet the conditions of its
-- place
abbrev pub fits : TableView → Class → List ℕ → Rule → Bool
fits t before rest r =
    matches t (is_in_caps_run t before rest) rest r.chars
    && holds (before_of r.place) before
    && holds (after_of r.place before) (classes_at t rest (length r.chars))

-- the neighbours of a rule at the start of `rest` meet the conditions of its place
abbrev pub place_allows : TableView → Class → List ℕ → Rule → Bool
place_allows t before rest r = holds (before_of r.place) before && holds (after_of r.place before) (classes_at t rest (length r.chars))

-- the neighbours of the rule with this number meet the conditions of its place
abbrev pub place_allows_number : TableView → Class → List ℕ → ℕ → Bool
place_allows_number t before rest number = option_map_or (place_allows t before rest) (slice_get t.rules number) false

-- A chosen rule: its number, the number of characters that it takes, and its cells. Rules in rank
-- are numbered from 0, and after them the own definitions, in the order of the characters.
pub record Choice : Type 0 where
  pub number : ℕ
  pub taken : ℕ
  pub cells : List ℕ

-- the choice of the rule with this number
abbrev pub by_rule : ℕ → Rule → Choice
by_rule number r = record { number = number; taken = length r.chars; cells = r.cells }

-- the choice of the first character's own definition
abbrev pub own : TableView → List ℕ → Choice
own t [] = record { number = length t.rules; taken = 1; cells = [] }
own t (c ∷ rest) = record {
  number = length t.rules + option_map_or (λ info. info.number) (info_of t c) 0;
  taken = 1;
  cells = option_map_or (λ info. info.cells) (info_of t c) [];
}

-- the choice of the first of these rules that fits, numbered from this number on, else the own
-- definition
abbrev pub first_fitting : TableView → Class → List ℕ → ℕ → List Rule → Choice
first_fitting t before rest number [] = own t rest
first_fitting t before rest number (r ∷ rules) =
    if fits t before rest r then by_rule number r else first_fitting t before rest (number + 1) rules

-- the choice of a table: the first rule in rank that fits, else the own definition
abbrev pub chosen : TableView → Class → List ℕ → Choice
chosen t before rest = first_fitting t before rest 0 t.rules

-- its number: none at the end of the text, and none where the first character is undefined
abbrev pub chosen_number : TableView → Class → List ℕ → Option ℕ
chosen_number t before [] = None
chosen_number t before (c ∷ rest) = if is_defined t c then Some (chosen t before (c ∷ rest)).number else None

-- a choice of the code, whose cells are borrowed, is this choice
pub record IsChoice (lent : Lent) (choice : Choice) : Type 0 where
  pub number : lent.number ≡ choice.number
  pub taken : lent.taken ≡ choice.taken
  pub cells : lent.cells.now ≡ choice.cells
