-- The table that the files of a source define. The project's own choice.
use Rattle.std.specs.Prelude.{ℕ, ◌≡◌, List}
use Rattle.brl_lines.specs.Answer.{FileAnswers}
use Rattle.brl_lines.specs.Outcome.{AreLinesOf, AreLinesOfFiles}
use Rattle.brl_lines.specs.Tokens.{LineView}
use Rattle.brl_table.specs.Reading.{AreGood, table_of}
use Rattle.brl_rules.specs.TableView.{TableView}

-- the table with its root at this path: the lines of its files are good, and define it
abbrev pub IsTableOf : FileAnswers → List ℕ → TableView → Type 0
IsTableOf gives root t = (lines : List LineView) × AreLinesOf gives root lines × AreGood lines × (t ≡ table_of lines)

-- the table with its root at this path, by just the files at these paths
abbrev pub IsTableOfFiles : FileAnswers → List ℕ → List (List ℕ) → TableView → Type 0
IsTableOfFiles gives root paths t = (lines : List LineView) × AreLinesOfFiles gives root paths lines × AreGood lines × (t ≡ table_of lines)
