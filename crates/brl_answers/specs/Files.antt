-- What files give after one of them is written or made. The manual leaves open where files come
-- from: this is the project's own choice.
use Rattle.std.specs.Prelude.{ℕ, ◌≡◌, ◌≢◌, Bool, List, [], Some, Result, Ok, Err, string_bytes}
use Rattle.brl_failure.specs.declared.failure.Failure.{Failure}
use Rattle.brl_failure.specs.declared.failure.Failure.TheVariants as failures
use Rattle.brl_lines.specs.Answer.{FileAnswer, FileAnswers, MayAnswer, Missing, answer_of}
use Rattle.brl_lines.specs.InMemory.{bytes_in}
use Rattle.brl_lines.specs.declared.map_source.MapSource.{MapSource}
use Rattle.brl_answers.specs.declared.files.CreateFault.{CreateFault}
use Rattle.brl_answers.specs.declared.files.CreateFault.TheVariants as creation
use Rattle.brl_answers.specs.declared.new_files.NewFile.{NewFile}
use Rattle.brl_answers.specs.declared.run_fault.RunFault.{RunFault}
use Rattle.brl_answers.specs.declared.run_fault.RunFault.TheVariants.{CannotWrite, Memory}

-- a source looks in the same folders as before, and may answer the same for each path but this one
abbrev pub OthersStay : FileAnswers → FileAnswers → List ℕ → Type 0
OthersStay old new path = (new.folders ≡ old.folders) × ((p : List ℕ) (a : FileAnswer) → p ≢ path → new.may p a ≡ old.may p a)

-- it may answer what a file with these bytes gives
abbrev pub GivesAlso : FileAnswers → List ℕ → List ℕ → Type 0
GivesAlso gives path bytes = MayAnswer gives path (answer_of (Some bytes))

-- nothing may be at a path
abbrev pub MayBeAbsent : FileAnswers → List ℕ → Type 0
MayBeAbsent gives path = MayAnswer gives path Missing

-- something may be at a path
abbrev pub MayBeThere : FileAnswers → List ℕ → Type 0
MayBeThere gives path = (answer : FileAnswer) × (answer ≢ Missing) × MayAnswer gives path answer

-- whether two paths may name one file
abbrev pub MayBeSame : Type 0
MayBeSame = List ℕ → List ℕ → Bool

-- where something is at the path of a file to be made, no file changes
abbrev pub StaysWhereThere : FileAnswers → FileAnswers → List ℕ → Failure CreateFault → Type 0
StaysWhereThere before after path (failures.Fault creation.AlreadyThere) = MayBeThere before path × (after ≡ before)
StaysWhereThere before after path failure = Unit {0}

-- the path of a file
abbrev pub path_of : NewFile → List ℕ
path_of file = string_bytes file.path

-- a file may be read as it was written
abbrev pub IsGivenBy : FileAnswers → NewFile → Type 0
IsGivenBy gives file = GivesAlso gives (path_of file) file.bytes.items

-- a file was written, and no other file changed
abbrev pub IsWritten : NewFile → FileAnswers → FileAnswers → Type 0
IsWritten file before after = IsGivenBy after file × OthersStay before after (path_of file)

-- a file was written, or the fault names it alone, or memory ran out; no other file changed
abbrev pub IsPutInto : NewFile → FileAnswers → FileAnswers → Result (Unit {0}) RunFault → Type 0
IsPutInto file before after (Ok done) = IsWritten file before after
IsPutInto file before after (Err (CannotWrite path made)) =
    (string_bytes path ≡ path_of file) × (made.items ≡ []) × OthersStay before after (path_of file)
IsPutInto file before after (Err Memory) = OthersStay before after (path_of file)
IsPutInto file before after (Err fault) = ⊥

-- ---- Files in memory

-- all paths have the bytes that they had
abbrev pub AllAre : MapSource → MapSource → Type 0
AllAre old new = (p : List ℕ) → bytes_in new p ≡ bytes_in old p

-- all paths but this one have the bytes that they had
abbrev pub OthersAre : MapSource → MapSource → List ℕ → Type 0
OthersAre old new path = (p : List ℕ) → p ≢ path → bytes_in new p ≡ bytes_in old p
