-- Internal. The parts of a state's steps: those that begin with one character. That the steps of
-- these parts are the state's is proved.
use Rattle.std.specs.Prelude.{ℕ, Bool, ◌&&◌, List, [], ◌∷◌, filter, map, if◌then◌else◌}
use Rattle.std.specs.Int.RustNames.{bit_or}
use Rattle.brl_pairs.specs.declared.step.Step.{Step}
use Rattle.brl_rules.specs.declared.class.Class.{Class}
use Rattle.brl_rules.specs.declared.context.Context.{Context}
use Rattle.brl_rules.specs.Places.{digit, gap, letter, none, share, space, uppercase}
use Rattle.brl_rules.specs.TableView.{TableView}
use Rattle.brl_rules.specs.Text.{has_word_capitals, is_capital}
use Rattle.brl_states.specs.declared.due.Due.{Due}
use Rattle.brl_states.specs.declared.dues_state.DuesState.{DuesState}
use Rattle.brl_states.specs.DuesContext.{context_of, state_in}
use Rattle.brl_dues.specs.declared.parts.DuesPart.{DuesPart}
use Rattle.brl_dues.specs.Capitals.{letters}
use Rattle.brl_dues.specs.Letters.{bars_from, may_come, new_letter, steps_found}

-- these classes where this is so, and else none
abbrev pub class_if : Bool → Class → Class
class_if b classes = if b then classes else none

-- the classes that these four answers stand for: space for one of space and punctuation, digit,
-- letter, and uppercase
abbrev pub told : Bool → Bool → Bool → Bool → Class
told has_gap has_digit has_letter has_upper = record {
  0 = bit_or (bit_or (bit_or (class_if has_gap space).0 (class_if has_digit digit).0) (class_if has_letter letter).0) (class_if has_upper uppercase).0;
}

-- what steps ask of the classes before: whether they have one of space and punctuation, digit and
-- letter, and in a table with word capitals uppercase
abbrev pub asked : TableView → Class → Class
asked t before = told (share before gap) (share before digit) (share before letter) (has_word_capitals t && is_capital before)

-- what steps ask of a context
abbrev pub asked_context : TableView → Context → Context
asked_context t here = record here { classes = asked t here.classes }

-- the part of a character with these bars in this context
abbrev pub part_with : Context → List Due → ℕ → DuesPart
part_with here bars c = record { state = state_in here bars; character = c }

-- the part of a character in this context: of these dues it has the bars that begin with the
-- character
abbrev pub part_in : Context → List Due → ℕ → DuesPart
part_in here dues c = part_with here (filter (bars_from c) dues) c

-- the parts of a state's steps: one for each character that no due refuses
abbrev pub state_parts : TableView → DuesState → List DuesPart
state_parts t s = map (part_in (asked_context t (context_of s)) s.dues) (filter (may_come t s.dues) (letters t))

-- the steps of a part: those of its state that begin with its character
abbrev pub steps_of_part : TableView → DuesPart → List (Step DuesState)
steps_of_part t p = steps_found t p.state 0 t.rules (new_letter t p.state.dues p.character ∷ [])
