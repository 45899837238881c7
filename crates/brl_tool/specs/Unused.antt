-- What `brl unused` answers. The project's own choice.
use Rattle.std.specs.Prelude.{ℕ, ◌==◌, if◌then◌else◌, List, ◌++◌, Result, codes, length}
use Rattle.std.specs.Fmt.{decimal}
use Rattle.brl_answers.specs.Answers.{HasTextAndStatus, UnlessMemory, with_alphabet_line}
use Rattle.brl_answers.specs.declared.answer.Answer.{Answer}
use Rattle.brl_answers.specs.declared.run_fault.RunFault.{RunFault}
use Rattle.brl_answers.specs.declared.status.Status.{Status}
use Rattle.brl_answers.specs.declared.status.Status.TheVariants.{Done, Refuted, Undecided}
use Rattle.brl_cli.specs.declared.command.AlphabetOption.{AlphabetOption}
use Rattle.brl_lines.specs.Answer.{FileAnswers}
use Rattle.brl_lines.specs.Tokens.{LineView}
use Rattle.brl_report.specs.Unused.{unused_text}
use Rattle.brl_rules.specs.TableView.{TableView}
use Rattle.brl_search.specs.Used.{AreUnusedRules}
use Rattle.brl_search.specs.declared.unused.UnusedRules.{UnusedRules}
use Rattle.brl_search.specs.declared.unused.UnusedRules.TheVariants.{Limit, Unused}
use Rattle.brl_table.specs.Reading.{table_of}
use Rattle.brl_tool.specs.Alphabets.{ByAlphabet, IfAllThere}
use Rattle.brl_tool.specs.ByLines.{ByLines}
use Rattle.brl_without.specs.Alphabet.{AlphabetView, left_out_by}

-- the status of a list with this number of rules
abbrev pub status_of_list : ℕ → Status
status_of_list rules = if rules == 0 then Done else Refuted

-- the line with the number of states at which the limit was passed
abbrev pub limit_line : ℕ → List ℕ
limit_line states = codes "limit: " ++ decimal states ++ codes " states\n"

-- the status of what is found
abbrev pub status_of_unused : UnusedRules → Status
status_of_unused (Unused numbers) = status_of_list (length numbers.items)
status_of_unused (Limit states) = Undecided

-- the text of what is found of a table of these lines, for texts made of the characters of an
-- alphabet
abbrev pub text_of_unused : AlphabetView → TableView → List LineView → UnusedRules → List ℕ
text_of_unused alphabet t lines (Unused numbers) = with_alphabet_line alphabet (unused_text t lines numbers.items)
text_of_unused alphabet t lines (Limit states) = limit_line states

-- the answer with what is found, with a limit, of the rules that no text uses which is made of the
-- characters of an alphabet
abbrev pub IsUnusedAnswer : AlphabetView → TableView → List LineView → ℕ → Answer → Type 0
IsUnusedAnswer alphabet t lines limit answer =
    (found : UnusedRules) × AreUnusedRules (left_out_by t alphabet) t limit found
    × HasTextAndStatus (status_of_unused found) (text_of_unused alphabet t lines found) answer

-- the unused rules of the table at a path were listed, by its lines, for texts of the characters of
-- which an option says that they are made
abbrev pub ListsUnused : AlphabetOption → FileAnswers → List ℕ → ℕ → Result Answer RunFault → Type 0
ListsUnused option gives path limit outcome =
    ByAlphabet option (λ alphabet. ByLines gives path (λ lines. let t = table_of lines in
    IfAllThere t alphabet (UnlessMemory (IsUnusedAnswer alphabet t lines limit)))) outcome
