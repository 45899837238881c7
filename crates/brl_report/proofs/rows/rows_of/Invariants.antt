use Rattle.std.proofs.Common.{◌≡◌, map, take}
use Rattle.brl_lines.specs.Views.{line_view}
use Rattle.brl_report.specs.Rows.{row_of}
use Rattle.brl_report.proofs.rows.rows_of.Given as goal

abbrev pub invariant-loop-step : goal.invariant-loop-step
invariant-loop-step l = l.rows.items ≡ map (row_of l.table (map line_view l.lines) l.columns) (take l.step-index l.steps)
