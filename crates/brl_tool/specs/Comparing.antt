-- What `brl clash` answers. The project's own choice.
use Rattle.std.specs.Prelude.{ℕ, ◌⊎◌, IsTrue, List, Result, Ok, Err, codes}
use Rattle.brl_forward.specs.Faults.{IsFaultOfTwo}
use Rattle.brl_lines.specs.Answer.{FileAnswers}
use Rattle.brl_lines.specs.Tokens.{LineView}
use Rattle.brl_report.specs.Report.{report_text_with}
use Rattle.brl_rules.specs.TableView.{TableView}
use Rattle.brl_rules.specs.Text.{is_text}
use Rattle.brl_rules.specs.Translation.{IsClash}
use Rattle.brl_answers.specs.declared.answer.Answer.{Answer}
use Rattle.brl_answers.specs.declared.run_fault.RunFault.{RunFault}
use Rattle.brl_answers.specs.declared.run_fault.RunFault.TheVariants.{Confirm, Memory}
use Rattle.brl_answers.specs.declared.status.Status.TheVariants.{Done, Refuted}
use Rattle.brl_answers.specs.Answers.{ByText, HasTextAndStatus}
use Rattle.brl_cli.specs.declared.command.TextOptions.{TextOptions}
use Rattle.brl_table.specs.Reading.{table_of}
use Rattle.brl_tool.specs.ByLines.{ByLines, shown_lines}

-- the answer for two texts of a table: the report of a clash, with those of these lines by which
-- each step is made, or that there is none
abbrev pub IsComparison : TableView → List LineView → List ℕ → List ℕ → Answer → Type 0
IsComparison t lines left right answer =
    ((cells : List ℕ) × IsClash t left right cells × HasTextAndStatus Refuted (report_text_with t lines left right cells) answer)
    ⊎ (IsTrue (is_text t left) × IsTrue (is_text t right) × ((cells : List ℕ) → IsClash t left right cells → ⊥)
    × HasTextAndStatus Done (codes "no clash\n") answer)

-- two texts were compared by a table
abbrev pub Compares : TableView → List LineView → List ℕ → List ℕ → Result Answer RunFault → Type 0
Compares t lines left right (Ok answer) = IsComparison t lines left right answer
Compares t lines left right (Err (Confirm fault)) = IsFaultOfTwo t left right fault
Compares t lines left right (Err Memory) = Unit {0}
Compares t lines left right (Err fault) = ⊥

-- The texts of two words, with or without escapes, were compared by the table of the file at a
-- path, whose lines are shown or not. The left word is read first, and both before the table.
abbrev pub ComparesByWords : TextOptions → FileAnswers → List ℕ → List ℕ → List ℕ → Result Answer RunFault → Type 0
ComparesByWords options gives path left right outcome =
    ByText options.escapes left (λ l. ByText options.escapes right (λ r. ByLines gives path
    (λ lines. Compares (table_of lines) (shown_lines options.lines lines) l r))) outcome
