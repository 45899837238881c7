-- The bytes of a file that is no table's. The project's own choice.
use Rattle.std.specs.Prelude.{ℕ, ◌≡◌, ◌<◌, ◌⊎◌, List, length, None, Result, string_bytes}
use Rattle.brl_answers.specs.Answers.{Then}
use Rattle.brl_answers.specs.declared.answer.Answer.{Answer}
use Rattle.brl_answers.specs.declared.new_files.NewFiles.{NewFiles}
use Rattle.brl_answers.specs.declared.new_files.NewFiles.TheVariants.{InPlace}
use Rattle.brl_answers.specs.declared.run_fault.RunFault.{RunFault}
use Rattle.brl_answers.specs.declared.run_fault.RunFault.TheVariants.{Load, Memory}
use Rattle.brl_lines.specs.Answer.{FileAnswer, FileAnswers, Holds, Large, MayAnswer, Missing, Unreadable, most_file_bytes}
use Rattle.brl_lines.specs.declared.fault.LoadFaultKind.{LoadFaultKind}
use Rattle.brl_lines.specs.declared.fault.LoadFaultKind.TheVariants as kinds

-- why a file has no bytes
abbrev pub LacksBytes : (FileAnswer → Type 0) → LoadFaultKind → Type 0
LacksBytes gives kinds.NotFound = gives Missing
LacksBytes gives kinds.ReadFailed = gives Unreadable
LacksBytes gives kinds.TooLarge = gives Large ⊎ ((bytes : List ℕ) × gives (Holds bytes) × (most_file_bytes < length bytes))
LacksBytes gives kind = ⊥

-- the file at a path has no bytes, and the fault names its path and no line; or memory ran out
abbrev pub IsFaultOfFile : FileAnswers → List ℕ → RunFault → Type 0
IsFaultOfFile gives path Memory = Unit {0}
IsFaultOfFile gives path (Load fault) = (string_bytes fault.path ≡ path) × (fault.place ≡ None) × LacksBytes (MayAnswer gives path) fault.kind
IsFaultOfFile gives path fault = ⊥

-- what is answered by the bytes of the file at a path, or why it has none
abbrev pub ByBytes : FileAnswers → List ℕ → (List ℕ → Result Answer RunFault → Type 0) → Result Answer RunFault → Type 0
ByBytes gives path answers outcome = Then (λ bytes. MayAnswer gives path (Holds bytes)) (IsFaultOfFile gives path) answers outcome

-- one file, in place of what is at a path, with these bytes
abbrev pub IsFileWith : List ℕ → List ℕ → NewFiles → Type 0
IsFileWith path bytes (InPlace file) = (string_bytes file.path ≡ path) × (file.bytes.items ≡ bytes)
IsFileWith path bytes files = ⊥
