-- The report of one text: its steps. The project's own choice.
use Rattle.std.specs.Prelude.{ℕ, List, ◌++◌, codes}
use Rattle.brl_lines.specs.Tokens.{LineView}
use Rattle.brl_report.specs.Header.{cells_line, text_line}
use Rattle.brl_report.specs.Rows.{step_lines}
use Rattle.brl_report.specs.Steps.{report_steps}
use Rattle.brl_report.specs.declared.row.CellColumns.TheVariants.{Parted}
use Rattle.brl_rules.specs.TableView.{TableView}
use Rattle.brl_rules.specs.Translation.{translation}

-- the text, its cells, and the steps of its translation, with the cells of the indicators apart,
-- each with the lines by which it is made, where lines are given
abbrev pub trace_text : TableView → List LineView → List ℕ → List ℕ
trace_text t lines text =
    text_line (codes "text") text ++ cells_line (translation t text) ++ step_lines t lines Parted (report_steps t text)
