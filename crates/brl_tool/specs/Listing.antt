-- What `brl rules` answers. The project's own choice.
use Rattle.std.specs.Prelude.{ℕ, ◌≡◌, List, [], ◌∷◌, None, Some, Result, Ok, Err}
use Rattle.brl_lines.specs.Answer.{FileAnswers}
use Rattle.brl_lines.specs.Tokens.{LineView}
use Rattle.brl_report.specs.Rules.{first_unknown, rule_numbers, rules_text}
use Rattle.brl_rules.specs.TableView.{TableView}
use Rattle.brl_table.specs.Reading.{table_of}
use Rattle.brl_answers.specs.Answers.{HasTextAndStatus}
use Rattle.brl_answers.specs.declared.answer.Answer.{Answer}
use Rattle.brl_answers.specs.declared.run_fault.RunFault.{RunFault}
use Rattle.brl_answers.specs.declared.run_fault.RunFault.TheVariants.{NoSuchRule, Memory}
use Rattle.brl_answers.specs.declared.status.Status.TheVariants.{Done}
use Rattle.brl_tool.specs.ByLines.{ByLines}

-- the numbers whose rules are listed: those that are given, and where there are none all
abbrev pub listed_numbers : TableView → List ℕ → List ℕ
listed_numbers t [] = rule_numbers t
listed_numbers t (number ∷ numbers) = number ∷ numbers

-- the rules of a table of these lines were listed, or the fault names the first number that none
-- has
abbrev pub Lists : TableView → List LineView → List ℕ → Result Answer RunFault → Type 0
Lists t lines numbers (Ok answer) =
    (first_unknown t numbers ≡ None) × HasTextAndStatus Done (rules_text t lines (listed_numbers t numbers)) answer
Lists t lines numbers (Err (NoSuchRule number)) = first_unknown t numbers ≡ Some number
Lists t lines numbers (Err Memory) = Unit {0}
Lists t lines numbers (Err fault) = ⊥

-- the rules of the table at a path were listed, by its lines
abbrev pub ListsByFile : FileAnswers → List ℕ → List ℕ → Result Answer RunFault → Type 0
ListsByFile gives path numbers outcome = ByLines gives path (λ lines. Lists (table_of lines) lines numbers) outcome
