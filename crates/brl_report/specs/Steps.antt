-- The steps of a translation with their characters, and where two translations diverge. The
-- project's own choice.
use Rattle.std.specs.Prelude.{ℕ, Bool, ◌&&◌, ◌==◌, nat_eq, List, map, take, drop}
use Rattle.std.specs.List.{common_prefix_len}
use Rattle.std.specs.Cmp.Lexicographic.{pointwise}
use Rattle.brl_forward.specs.Trace.{trace_of}
use Rattle.brl_forward.specs.declared.steps.Traced.{Traced}
use Rattle.brl_report.specs.declared.steps.ReportStep.{ReportStep}
use Rattle.brl_rules.specs.TableView.{TableView}
use Rattle.brl_rules.specs.Text.{context_at, is_in_caps_run}
use Rattle.brl_rules.specs.declared.context.Context.{Context}

-- a step after a context, with the characters that it reads, and whether it begins in a run of
-- capitals
abbrev pub step_after : TableView → List ℕ → Context → Traced → ReportStep
step_after t text here step = record {
  step = step;
  characters = take step.length (drop step.start text);
  here = here;
  run = is_in_caps_run t here.classes (drop step.start text);
}

-- a step of a text, after the context of its position
abbrev pub report_step : TableView → List ℕ → Traced → ReportStep
report_step t text step = step_after t text (context_at t text step.start) step

-- the steps of a text's translation
abbrev pub report_steps : TableView → List ℕ → List ReportStep
report_steps t text = map (report_step t text) (trace_of t text)

-- whether the rules, the characters and the cells of two steps are the same
abbrev pub are_same : ReportStep → ReportStep → Bool
are_same x y = (x.step.rule == y.step.rule) && pointwise nat_eq x.characters y.characters && pointwise nat_eq x.step.cells y.step.cells

-- the number of steps that two translations have in common before they diverge
abbrev pub common_prefix : List ReportStep → List ReportStep → ℕ
common_prefix left right = common_prefix_len are_same left right
