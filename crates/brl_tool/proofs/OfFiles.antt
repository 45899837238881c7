-- The table of some files.
use Rattle.std.proofs.Common.{ℕ, List}
use Rattle.brl_lines.specs.Answer.{FileAnswers}
use Rattle.brl_lines.specs.Outcome.{AreLinesOf, AreLinesOfFiles}
use Rattle.brl_lines.specs.Tokens.{LineView}
use Rattle.brl_table.specs.Files.{IsTableOf, IsTableOfFiles}
use Rattle.brl_rules.specs.TableView.{TableView}

-- the lines of some files are those of their root
pub lines_of : (gives : FileAnswers) (path : List ℕ) (paths : List (List ℕ)) (lines : List LineView) → AreLinesOfFiles gives path paths lines → AreLinesOf gives path lines
lines_of gives path paths lines (answers, given, are, lines_are) = (answers, given, lines_are)

-- the table of some files is that of its root
pub of_files : (gives : FileAnswers) (path : List ℕ) (paths : List (List ℕ)) (t : TableView) → IsTableOfFiles gives path paths t → IsTableOf gives path t
of_files gives path paths t (lines, are, passes, is) = (lines, lines_of gives path paths lines are, passes, is)
