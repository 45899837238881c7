-- The steps of a translation, by position in a whole text.
use Rattle.std.specs.Prelude.{ℕ, zero, suc, ◌+◌, List, [], ◌∷◌, ◌++◌, length, drop, nat_lt, if◌then◌else◌}
use Rattle.brl_rules.specs.declared.context.Context.{Context}
use Rattle.brl_rules.specs.TableView.{TableView}
use Rattle.brl_rules.specs.Text.{context_at}
use Rattle.brl_rules.specs.Indicators.{indicators}
use Rattle.brl_rules.specs.Choice.{chosen}
use Rattle.brl_rules.specs.Translation.{chosen_at}
use Rattle.brl_forward.specs.declared.steps.Traced.{Traced}

-- the step at the start of `rest`, which begins at position i: the chosen rule and its indicators
abbrev pub step_before : TableView → Context → ℕ → List ℕ → Traced
step_before t here i rest = record {
  start = i;
  rule = (chosen t here.classes rest).number;
  length = (chosen t here.classes rest).taken;
  indicators = length (indicators t here rest);
  cells = indicators t here rest ++ (chosen t here.classes rest).cells;
}

-- the step at position i
abbrev pub step_at : TableView → List ℕ → ℕ → Traced
step_at t text i = step_before t (context_at t text i) i (drop i text)

-- the steps from position i on, at most the given number
abbrev pub steps_from : TableView → List ℕ → ℕ → ℕ → List Traced
steps_from t text zero i = []
steps_from t text (suc steps) i =
    if nat_lt i (length text) then step_at t text i ∷ steps_from t text steps (i + (chosen_at t text i).taken) else []

-- the trace of a text; each step takes at least one character, so its length is enough steps
unfoldable pub trace_of : TableView → List ℕ → List Traced
trace_of t text = steps_from t text (length text) 0
