-- The window machine of a table: a state knows some of the characters to come, and a step first
-- reads on until enough of them are known to decide which rule is chosen. The machine is this
-- project's own choice. The chosen rule, the indicators and the context are those of the table (the
-- manual's sections "Translation Opcodes" and "Braille Indicator Opcodes").
use Rattle.std.specs.Prelude.{ℕ, zero, suc, ◌+◌, ◌-◌, max, Bool, true, false, nat_le, ◌==◌, List, [], ◌∷◌, ◌++◌, length, take, drop, if◌then◌else◌}
use Rattle.std.specs.List.{flat_map}
use Rattle.std.specs.Map.{keys_of}
use Rattle.brl_pairs.specs.Runs.{Behaviour}
use Rattle.brl_pairs.specs.declared.step.Step.{Step}
use Rattle.brl_rules.specs.Choice.{chosen}
use Rattle.brl_rules.specs.Indicators.{indicators}
use Rattle.brl_rules.specs.TableView.{TableView}
use Rattle.brl_rules.specs.Text.{at_start, context_after_all, is_defined, is_text}
use Rattle.brl_rules.specs.Translation.{translation}
use Rattle.brl_rules.specs.declared.context.Context.{Context}
use Rattle.brl_rules.specs.declared.rule.Rule.{Rule}
use Rattle.brl_states.specs.WindowContext.{context_of, state_in}
use Rattle.brl_states.specs.declared.window_state.WindowState.{WindowState}

-- the length of the longest rule, or 1 where there is no rule
abbrev pub longest : List Rule → ℕ
longest [] = 1
longest (r ∷ rules) = max (length r.chars) (longest rules)

-- the number of characters that decide which rule is chosen: those of the longest rule and the one
-- after it
abbrev pub width : TableView → ℕ
width t = longest t.rules + 1

-- ---- Windows

-- what is known of a text from a position on: its next characters, and whether it ends after them
pub record Window : Type 0 where
  pub known : List ℕ
  pub ended : Bool

-- the windows that extend what is known by up to `more` characters: the text ends here, or any of
-- the characters follows
abbrev pub windows_on : List ℕ → ℕ → List ℕ → List Window
windows_on letters zero known = record { known = known; ended = false } ∷ []
windows_on letters (suc more) known =
    record { known = known; ended = true } ∷ flat_map (λ c. windows_on letters more (known ++ c ∷ [])) letters

-- the windows of a state: what it knows, extended until enough is known or the text ends
abbrev pub windows : TableView → WindowState → List Window
windows t s =
    if s.ended then record { known = s.coming; ended = true } ∷ []
    else windows_on (keys_of t.characters) (width t - length s.coming) s.coming

-- ---- Steps

-- the step of a window: it applies the chosen rule, with the indicators before it
abbrev pub window_step : TableView → Context → Window → Step WindowState
window_step t here w =
    let choice = chosen t here.classes w.known in
    let behind = context_after_all t here (take choice.taken w.known) in
    record {
      rule = choice.number;
      reads = take choice.taken w.known;
      cells = indicators t here w.known ++ choice.cells;
      next = state_in behind w.ended (drop choice.taken w.known);
    }

-- whether the first of these characters is one of the table
abbrev pub begins_defined : TableView → List ℕ → Bool
begins_defined t [] = false
begins_defined t (c ∷ rest) = is_defined t c

-- the step of a window; none where it knows no character, or the table doesn't define the first one
abbrev pub steps_at : TableView → Context → Window → List (Step WindowState)
steps_at t here w = if begins_defined t w.known then window_step t here w ∷ [] else []

-- the steps of a state, in the order of its windows
abbrev pub steps_found : TableView → WindowState → List (Step WindowState)
steps_found t s = flat_map (steps_at t (context_of s)) (windows t s)

-- sorted steps with one more, which comes before those of the same rule
abbrev pub put_in : {S : Type 0} → Step S → List (Step S) → List (Step S)
put_in x [] = x ∷ []
put_in x (y ∷ ys) = if nat_le x.rule y.rule then x ∷ y ∷ ys else y ∷ put_in x ys

-- steps sorted by rule number; those of one rule keep their order
abbrev pub by_rule_number : {S : Type 0} → List (Step S) → List (Step S)
by_rule_number [] = []
by_rule_number (x ∷ xs) = put_in x (by_rule_number xs)

-- the steps that the machine lists from a state
unfoldable pub window_steps : TableView → WindowState → List (Step WindowState)
window_steps t s = by_rule_number (steps_found t s)

-- ---- The machine

-- the state before any character: class space before it, no numeric mode, and nothing known of the
-- text
abbrev pub first_state : WindowState
first_state = state_in at_start false []

-- whether a state is final: it knows no character to come
abbrev pub knows_none : WindowState → Bool
knows_none s = length s.coming == 0

-- the window machine, whose texts and translation are the table's
abbrev pub window_machine : TableView → Behaviour WindowState
window_machine t = record {
  start = first_state;
  steps = window_steps t;
  ends = knows_none;
  is_text = is_text t;
  translation = translation t;
}
