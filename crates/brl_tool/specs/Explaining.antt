-- What `brl explain` answers. The project's own choice.
use Rattle.std.specs.Prelude.{ℕ, ◌≡◌, List, ◌++◌, None, Some, Result, string_bytes}
use Rattle.brl_explain.specs.Details.{explanation_of}
use Rattle.brl_explain.specs.InFile.{AreNotes}
use Rattle.brl_answers.specs.Answers.{EndsAs, HasTextAndStatus, Then, UnlessMemory}
use Rattle.brl_answers.specs.declared.answer.Answer.{Answer}
use Rattle.brl_answers.specs.declared.run_fault.RunFault.{RunFault}
use Rattle.brl_answers.specs.declared.run_fault.RunFault.TheVariants.{NoSuchFault}
use Rattle.brl_answers.specs.declared.status.Status.TheVariants.{Done}
use Rattle.brl_lines.specs.Answer.{FileAnswers}

-- the fault of a line was explained, with notes on the file that it names, or the line, which has
-- none, is named
abbrev pub Explains : FileAnswers → List ℕ → Result Answer RunFault → Type 0
Explains gives line outcome =
    Then (λ text. explanation_of line ≡ Some text) (EndsAs NoSuchFault (λ named. (explanation_of line ≡ None) × (string_bytes named ≡ line)))
    (λ text. UnlessMemory (λ answer. (notes : List ℕ) × AreNotes gives line notes × HasTextAndStatus Done (text ++ notes) answer)) outcome
