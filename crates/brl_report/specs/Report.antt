-- The report of a clash. The project's own choice.
use Rattle.std.specs.Prelude.{ℕ, List, [], ◌∷◌, ◌++◌, codes, drop, decimal}
use Rattle.brl_lines.specs.Tokens.{LineView}
use Rattle.brl_report.specs.Header.{cells_line, text_line}
use Rattle.brl_report.specs.Rows.{step_lines}
use Rattle.brl_report.specs.Steps.{common_prefix, report_steps}
use Rattle.brl_report.specs.declared.row.CellColumns.TheVariants.{Joined}
use Rattle.brl_report.specs.declared.steps.ReportStep.{ReportStep}
use Rattle.brl_rules.specs.TableView.{TableView}

-- the lines of the texts of a clash and of their cells
abbrev pub header : List ℕ → List ℕ → List ℕ → List ℕ
header left right cells = text_line (codes "left") left ++ text_line (codes "right") right ++ cells_line cells

-- the position of the first of some steps, or 0
abbrev pub first_start : List ReportStep → ℕ
first_start [] = 0
first_start (x ∷ steps) = x.step.start

-- a side of this name: its steps from where the two translations diverge
abbrev pub side : TableView → List LineView → List ℕ → List ReportStep → List ℕ
side t lines name steps = name ++ codes " from " ++ decimal (first_start steps) ++ codes ":\n" ++ step_lines t lines Joined steps

-- both sides after a text
abbrev pub report_of : TableView → List LineView → List ℕ → List ReportStep → List ReportStep → List ℕ
report_of t lines front left right =
    front ++ side t lines (codes "left") (drop (common_prefix left right) left)
    ++ side t lines (codes "right") (drop (common_prefix left right) right)

-- the whole report of two texts and their cells, where each step has the lines by which it is made,
-- if lines are given
abbrev pub report_text_with : TableView → List LineView → List ℕ → List ℕ → List ℕ → List ℕ
report_text_with t lines left right cells = report_of t lines (header left right cells) (report_steps t left) (report_steps t right)

-- the whole report of two texts and their cells
abbrev pub report_text : TableView → List ℕ → List ℕ → List ℕ → List ℕ
report_text t left right cells = report_text_with t [] left right cells
