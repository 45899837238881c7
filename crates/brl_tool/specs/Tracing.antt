-- What `brl trace` answers. The project's own choice.
use Rattle.std.specs.Prelude.{ℕ, IsTrue, List, Result, Ok, Err}
use Rattle.brl_forward.specs.Faults.{IsFaultOf}
use Rattle.brl_lines.specs.Answer.{FileAnswers}
use Rattle.brl_lines.specs.Tokens.{LineView}
use Rattle.brl_report.specs.Trace.{trace_text}
use Rattle.brl_rules.specs.TableView.{TableView}
use Rattle.brl_rules.specs.Text.{is_text}
use Rattle.brl_answers.specs.Answers.{ByText, HasTextAndStatus}
use Rattle.brl_cli.specs.declared.command.TextOptions.{TextOptions}
use Rattle.brl_table.specs.Reading.{table_of}
use Rattle.brl_tool.specs.ByLines.{ByLines, shown_lines}
use Rattle.brl_answers.specs.declared.answer.Answer.{Answer}
use Rattle.brl_answers.specs.declared.run_fault.RunFault.{RunFault}
use Rattle.brl_answers.specs.declared.run_fault.RunFault.TheVariants.{Text, Memory}
use Rattle.brl_answers.specs.declared.status.Status.TheVariants.{Done}

-- a text was traced by a table: its report, with those of these lines by which each step is made,
-- or its first unknown character
abbrev pub Traces : TableView → List LineView → List ℕ → Result Answer RunFault → Type 0
Traces t lines text (Ok answer) = IsTrue (is_text t text) × HasTextAndStatus Done (trace_text t lines text) answer
Traces t lines text (Err (Text fault)) = IsFaultOf t text fault
Traces t lines text (Err Memory) = Unit {0}
Traces t lines text (Err fault) = ⊥

-- the text of a word, with or without escapes, was traced by the table of the file at a path, whose
-- lines are shown or not; the word is read before the table
abbrev pub TracesByWord : TextOptions → FileAnswers → List ℕ → List ℕ → Result Answer RunFault → Type 0
TracesByWord options gives path word outcome =
    ByText options.escapes word (λ text. ByLines gives path (λ lines. Traces (table_of lines) (shown_lines options.lines lines) text)) outcome
