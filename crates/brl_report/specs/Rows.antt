-- The lines of a report that list the steps of a text. The project's own choice.
use Rattle.std.specs.Prelude.{ℕ, ◌-◌, max, false, List, [], ◌∷◌, ◌++◌, Option, Some, None, codes, fold, flat_map, map, slice_get, take, drop, chars, encode_utf8_all}
use Rattle.std.specs.List.{repeat}
use Rattle.std.specs.Option.{option_map_or}
use Rattle.unicode_width.specs.Width.{str_width}
use Rattle.brl_cells.specs.Dots.{spelling}
use Rattle.brl_lines.specs.Spelling.{text_spelling}
use Rattle.brl_lines.specs.Tokens.{LineView}
use Rattle.brl_report.specs.Place.{place_text}
use Rattle.brl_report.specs.Sources.{step_sources}
use Rattle.brl_report.specs.declared.row.CellColumns.{CellColumns}
use Rattle.brl_report.specs.declared.row.CellColumns.TheVariants.{Joined, Parted}
use Rattle.brl_report.specs.declared.row.Widths.{Widths}
use Rattle.brl_report.specs.declared.steps.ReportStep.{ReportStep}
use Rattle.brl_rules.specs.TableView.{TableView, info_of}
use Rattle.brl_rules.specs.declared.rule.Info.{Info}
use Rattle.brl_rules.specs.declared.rule.Rule.{Rule}

-- the columns of a line: a step's characters as they are spelled, the cells of its indicators if
-- they have a column of their own, its cells in dots, and the location of its rule; and the lines
-- of the table that follow it
pub record RowView : Type 0 where
  pub characters : List ℕ
  pub indicators : Option (List ℕ)
  pub dots : List ℕ
  pub place : List ℕ
  pub sources : List ℕ

-- the location of a character's definition: of the line that gave it its cells
abbrev pub place_of_info : TableView → Option Info → List ℕ
place_of_info t (Some info) = place_text t info.file info.line
place_of_info t None = []

-- the location of a character's definition, if there is one
abbrev pub place_of_character : TableView → Option ℕ → List ℕ
place_of_character t (Some c) = place_of_info t (info_of t c)
place_of_character t None = []

-- the location of a step's rule; of an own definition, that of the step's character
abbrev pub place_of_rule : TableView → Option Rule → List ℕ → List ℕ
place_of_rule t (Some rule) characters = place_text t rule.file rule.line
place_of_rule t None characters = place_of_character t (slice_get characters 0)

-- cells in dots, or `-` for none
abbrev pub cells_or_none : List ℕ → List ℕ
cells_or_none [] = codes "-"
cells_or_none (cell ∷ cells) = spelling (cell ∷ cells)

-- the cells of a step's indicators, if they have a column of their own
abbrev pub indicators_column : CellColumns → ReportStep → Option (List ℕ)
indicators_column Joined x = None
indicators_column Parted x = Some (cells_or_none (take x.step.indicators x.step.cells))

-- the cells of a step in the column of its rule: all, or without those of its indicators
abbrev pub rule_cells : CellColumns → ReportStep → List ℕ
rule_cells Joined x = x.step.cells
rule_cells Parted x = drop x.step.indicators x.step.cells

-- the columns of a step, and the lines by which it is made
abbrev pub row_of : TableView → List LineView → CellColumns → ReportStep → RowView
row_of t lines columns x = record {
  characters = encode_utf8_all (text_spelling x.characters);
  indicators = indicators_column columns x;
  dots = spelling (rule_cells columns x);
  place = place_of_rule t (slice_get t.rules x.step.rule) x.characters;
  sources = step_sources t lines x;
}

-- the width of a text on a terminal
abbrev pub width_of : List ℕ → ℕ
width_of text = str_width false (chars text)

-- the greatest width in a column
abbrev pub widest : (RowView → ℕ) → List RowView → ℕ
widest width rows = fold (λ most row. max most (width row)) 0 rows

-- the widths that fit the columns of all rows
abbrev pub widths_of : List RowView → Widths
widths_of rows = record {
  characters = widest (λ row. width_of row.characters) rows;
  indicators = widest (λ row. option_map_or width_of row.indicators 0) rows;
  dots = widest (λ row. width_of row.dots) rows;
}

-- a text padded with blanks to a width
abbrev pub filled : ℕ → List ℕ → List ℕ
filled width text = text ++ repeat (width - width_of text) (codes " ")

-- an entry of a column, after two blanks
abbrev pub column : ℕ → List ℕ → List ℕ
column width entry = codes "  " ++ filled width entry

-- an entry of a column, if the column is there
abbrev pub column_if : ℕ → Option (List ℕ) → List ℕ
column_if width None = []
column_if width (Some entry) = column width entry

-- the columns of a step, with these widths
abbrev pub columns_line : Widths → RowView → List ℕ
columns_line widths row =
    column widths.characters row.characters ++ column_if widths.indicators row.indicators ++ column widths.dots row.dots
    ++ codes "  " ++ row.place ++ codes "\n"

-- the line of a step, with these widths of its columns, and the lines that follow it
abbrev pub row_line : Widths → RowView → List ℕ
row_line widths row = columns_line widths row ++ row.sources

-- the lines of some steps, whose columns are as wide as their widest entries
abbrev pub row_lines : List RowView → List ℕ
row_lines rows = flat_map (row_line (widths_of rows)) rows

-- the lines of some steps of a table
abbrev pub step_lines : TableView → List LineView → CellColumns → List ReportStep → List ℕ
step_lines t lines columns steps = row_lines (map (row_of t lines columns) steps)
