use Rattle.std.proofs.Common.{◌≡◌, ◌-◌, ◌++◌, length, IsTrue}
use Rattle.brl_rules.specs.Translation.{translation, translation_from}
use Rattle.brl_forward.specs.Trace.{steps_from, trace_of}
use Rattle.brl_forward.specs.Walk.{IsAt}
use Rattle.brl_forward.proofs.walk.walk.Given as goal

abbrev pub invariant-loop-step : goal.invariant-loop-step
invariant-loop-step l = record {
  at : IsAt l.table l.text l.at;
  cells : l.cells.items ++ translation_from l.table l.text (length l.text) l.at.start ≡ l.fn.cells.items ++ translation l.table l.text;
  steps : IsTrue l.traces → l.steps.items ++ steps_from l.table l.text (length l.text) l.at.start ≡ l.fn.steps.items ++ trace_of l.table l.text;
}

abbrev pub decreases-loop-step : goal.decreases-loop-step
decreases-loop-step l = length l.text - l.at.start
