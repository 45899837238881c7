use Rattle.std.proofs.Common.{◌≡◌, map}
use Rattle.brl_report.specs.Steps.{report_step}
use Rattle.brl_rules.specs.Text.{context_at}
use Rattle.brl_report.proofs.StepPlaces.{taken_by}
use Rattle.brl_report.proofs.steps.traced_steps.Given as goal

-- the steps so far are there, and the context is that after their characters
abbrev pub invariant-loop-step : goal.invariant-loop-step
invariant-loop-step l = record {
  found : l.found.items ≡ map (report_step l.table l.text) l.yielded;
  here : l.here ≡ context_at l.table l.text (taken_by l.yielded);
}
