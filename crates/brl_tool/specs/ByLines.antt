-- Steps that read the files of a table. The project's own choice.
use Rattle.std.specs.Prelude.{ℕ, Bool, if◌then◌else◌, List, [], Result}
use Rattle.brl_answers.specs.Answers.{EndsAs, HasNoTable, Provided, Then}
use Rattle.brl_answers.specs.declared.answer.Answer.{Answer}
use Rattle.brl_answers.specs.declared.run_fault.RunFault.{RunFault}
use Rattle.brl_answers.specs.declared.run_fault.RunFault.TheVariants.{Load, Table}
use Rattle.brl_failure.specs.declared.failure.Failure.TheVariants as failures
use Rattle.brl_lines.specs.Answer.{FileAnswers}
use Rattle.brl_lines.specs.Loaded.{LoadedView}
use Rattle.brl_lines.specs.Outcome.{AreLinesOfFiles, IsLoadFault}
use Rattle.brl_lines.specs.Tokens.{LineView}
use Rattle.brl_table.specs.Faults.{IsFirstFaultOf}
use Rattle.brl_table.specs.Reading.{AreGood}

-- what is answered by the lines of the table at a path, or why there is no table
abbrev pub ByLines : FileAnswers → List ℕ → (List LineView → Result Answer RunFault → Type 0) → Result Answer RunFault → Type 0
ByLines gives path answers outcome =
    Then (λ lines. (paths : List (List ℕ)) × AreLinesOfFiles gives path paths lines × AreGood lines) (HasNoTable gives path) answers outcome

-- what is answered by the files of the table at a path, whatever their lines say, or why they can't
-- be loaded
abbrev pub ByFiles : {A : Type 0} → FileAnswers → List ℕ → (LoadedView → Result A RunFault → Type 0) → Result A RunFault → Type 0
ByFiles gives path answers outcome =
    Then (λ read. AreLinesOfFiles gives path read.paths read.lines) (EndsAs Load (λ fault. IsLoadFault gives path (failures.Fault fault))) answers outcome

-- what is answered where no line has a fault, or the first fault
abbrev pub IfPassing : {A : Type 0} → List LineView → (Result A RunFault → Type 0) → Result A RunFault → Type 0
IfPassing lines answers outcome = Provided (AreGood lines) (EndsAs Table (IsFirstFaultOf lines)) answers outcome

-- the lines of a table, where they are shown, and else none
abbrev pub shown_lines : Bool → List LineView → List LineView
shown_lines with_lines lines = if with_lines then lines else []
