-- Internal. How the steps of a state are found: by the characters that may come next, each with the
-- bars and the rules above that begin with it. That these are the steps of the machine is proved.
use Rattle.std.specs.Prelude.{ℕ, ◌+◌, Bool, true, false, ◌&&◌, ◌==◌, List, [], ◌∷◌, ◌++◌, Option, Some, None, filter, map, drop, if◌then◌else◌}
use Rattle.std.specs.List.{flat_map, list_all}
use Rattle.std.specs.Option.{option_map_or}
use Rattle.brl_pairs.specs.declared.step.Step.{Step}
use Rattle.brl_rules.specs.declared.class.Class.{Class}
use Rattle.brl_rules.specs.declared.place.Cond.{Cond}
use Rattle.brl_rules.specs.declared.place.Cond.TheVariants.{Any}
use Rattle.brl_rules.specs.declared.rule.Rule.{Rule}
use Rattle.brl_rules.specs.Choice.{own}
use Rattle.brl_rules.specs.Places.{holds, before_of, after_of}
use Rattle.brl_rules.specs.TableView.{TableView}
use Rattle.brl_rules.specs.Text.{classes_of, fold_of}
use Rattle.brl_dues.specs.declared.carry.Carried.{Carried}
use Rattle.brl_dues.specs.declared.carry.Carried.TheVariants.{Left}
use Rattle.brl_states.specs.declared.due.Due.{Due}
use Rattle.brl_states.specs.declared.due.Due.TheVariants.{Need, Bar}
use Rattle.brl_states.specs.declared.dues_state.DuesState.{DuesState}
use Rattle.brl_dues.specs.Capitals.{choices, further, letters}
use Rattle.brl_dues.specs.Carry.{bars_past, carry, gathered, is_whole, lefts, need}
use Rattle.brl_dues.specs.CaseForm.{CaseForm}
use Rattle.brl_dues.specs.Steps.{step_if, with_steps}
use Rattle.brl_dues.specs.LetterView.{LetterView}

-- ---- Characters that may come

-- a due doesn't refuse a character; a bar never does
abbrev pub lets_in : TableView → ℕ → Due → Bool
lets_in t c (Need cond) = holds cond (classes_of t c)
lets_in t c (Bar chars cond) = true

-- no due refuses the character
abbrev pub may_come : TableView → List Due → ℕ → Bool
may_come t dues c = list_all (lets_in t c) dues

-- these characters begin with this one
abbrev pub begins_with : ℕ → List ℕ → Bool
begins_with a [] = false
begins_with a (first ∷ others) = first == a

-- the due is a bar that begins with this character
abbrev pub bars_from : ℕ → Due → Bool
bars_from c (Need cond) = false
bars_from c (Bar chars cond) = begins_with c chars

-- a character with its bars, and nothing above it
abbrev pub new_letter : TableView → List Due → ℕ → LetterView
new_letter t dues c = record { character = c; fold = fold_of t c; bars = filter (bars_from c) dues; above = [] }

-- the characters of the table that may come, each with its bars, and nothing above them
abbrev pub new_letters : TableView → List Due → List LetterView
new_letters t dues = map (new_letter t dues) (filter (may_come t dues) (letters t))

-- the first character of a bar, from 1 on, and 0 for a need
abbrev pub first_of : Due → ℕ
first_of (Need cond) = 0
first_of (Bar [] cond) = 0
first_of (Bar (c ∷ chars) cond) = c + 1

-- ---- Rules above

-- the rule may be taken after a character of these classes where this character comes
abbrev pub is_taken : Class → Rule → LetterView → Bool
is_taken before r l = holds (before_of r.place) before && begins_with l.fold r.chars

-- the character with one more rule above
abbrev pub with_rule : Class → Rule → LetterView → LetterView
with_rule before r l =
    if is_taken before r l then record l { above = l.above ++ (drop 1 r.chars, after_of r.place before) ∷ [] } else l

-- ---- Steps

-- what is left of the bars of the rules above, after a character and these others
abbrev pub bars_of : TableView → Class → Bool → ℕ → List ℕ → List (List ℕ × Cond) → List Carried
bars_of t before run c others above = flat_map (λ a. bars_past t before run c others a.0 a.1) above

-- what is left after a step that reads the character and these others: of the character's bars, and
-- of what the step owes
abbrev pub left_by : TableView → Class → LetterView → Bool → Cond → List ℕ → Cond → List Carried
left_by t before l run next others after =
    map (carry t (l.character ∷ others)) l.bars ++ (need after ∷ need next ∷ bars_of t before run l.character others l.above)

-- what is left of dues after these characters, and none where one is broken
abbrev pub left_past : TableView → List ℕ → List Due → Option (List Due)
left_past t past dues = if list_all is_whole (map (carry t past) dues) then Some (lefts (map (carry t past) dues)) else None

-- what is left after a step where these dues are left of the bars: these, and what it owes
abbrev pub left_with : TableView → Class → List Due → LetterView → Bool → Cond → List ℕ → Cond → List Carried
left_with t before left l run next others after = map Left left ++ (need after ∷ need next ∷ bars_of t before run l.character others l.above)

-- the form that reads the character and these others
abbrev pub letter_form : LetterView → ℕ → Bool → Cond → List ℕ → Cond → List ℕ → CaseForm
letter_form l number run next others after cells = record {
  number = number;
  reads = l.character ∷ others;
  run = run;
  next = next;
  after = after;
  cells = cells;
  above = [];
}

-- the step of that form with what must follow it, if it breaks no due
abbrev pub next_step : TableView → DuesState → LetterView → ℕ → Bool → List ℕ → Cond → List ℕ → Cond → List (Step DuesState)
next_step t s l number run others after cells next =
    step_if t s (letter_form l number run next others after cells) (gathered (left_by t s.before l run next others after))

-- the step of that form, if the characters can begin in a run of capitals, or out of one
abbrev pub letter_step : TableView → DuesState → LetterView → ℕ → Bool → List ℕ → Cond → List ℕ → List (Step DuesState)
letter_step t s l number run others after cells =
    option_map_or (next_step t s l number run others after cells) (further t s.before run (l.character ∷ others)) []

-- the step of that form in a run of capitals, if the characters can begin there
abbrev pub caps_run_step : TableView → DuesState → LetterView → ℕ → Cond → List ℕ → List ℕ → List (Step DuesState)
caps_run_step t s l number after cells others = letter_step t s l number true others after cells

-- the steps in a run of capitals that read the character, these capitals and others, whose folds
-- are these characters
abbrev pub caps_run_steps : TableView → DuesState → LetterView → ℕ → Cond → List ℕ → List ℕ → List ℕ → List (Step DuesState)
caps_run_steps t s l number after cells begun chars = flat_map (λ text. caps_run_step t s l number after cells (begun ++ text)) (choices t chars)

-- the steps of a rule with these other characters: in a run of capitals, one for each choice of
-- capitals, and then the one out of a run
abbrev pub cased_steps : TableView → DuesState → LetterView → ℕ → List ℕ → Cond → List ℕ → List (Step DuesState)
cased_steps t s l number others after cells =
    flat_map (caps_run_step t s l number after cells) (choices t others) ++ letter_step t s l number false others after cells

-- the steps of a rule with this number that begin with the character
abbrev pub rule_step : TableView → DuesState → ℕ → Rule → LetterView → List (Step DuesState)
rule_step t s number r l =
    if is_taken s.before r l then with_steps [] (cased_steps t s l number (drop 1 r.chars) (after_of r.place s.before) r.cells) else []

-- the steps of the character's own definition
abbrev pub own_step : TableView → DuesState → LetterView → List (Step DuesState)
own_step t s l = with_steps [] (cased_steps t s l (own t (l.character ∷ [])).number [] Any (own t (l.character ∷ [])).cells)

-- the steps of these rules in rank, from this number on, and of the own definitions
abbrev pub steps_found : TableView → DuesState → ℕ → List Rule → List LetterView → List (Step DuesState)
steps_found t s number [] found = flat_map (own_step t s) found
steps_found t s number (r ∷ rules) found = flat_map (rule_step t s number r) found ++ steps_found t s (number + 1) rules (map (with_rule s.before r) found)
