-- What files give after those of an answer are written. The project's own choice.
use Rattle.std.specs.Prelude.{ℕ, ◌≡◌, ◌≢◌, ◌+◌, ◌<◌, ◌⊎◌, All, AllPairs, Any, List, length, option_map, slice_get, take, Some, Result, Ok, Err, string_bytes}
use Rattle.brl_failure.specs.declared.failure.Failure.{Failure}
use Rattle.brl_failure.specs.declared.failure.Failure.TheVariants as failures
use Rattle.brl_lines.specs.Answer.{FileAnswer, FileAnswers}
use Rattle.brl_answers.specs.Files.{IsGivenBy, IsPutInto, IsWritten, MayBeAbsent, MayBeThere, path_of}
use Rattle.brl_answers.specs.declared.new_files.NewFile.{NewFile}
use Rattle.brl_answers.specs.declared.new_files.NewFiles.{NewFiles}
use Rattle.brl_answers.specs.declared.new_files.NewFiles.TheVariants.{Nothing, InPlace, AllNew}
use Rattle.brl_answers.specs.declared.run_fault.RunFault.{RunFault}
use Rattle.brl_answers.specs.declared.run_fault.RunFault.TheVariants.{AlreadyThere, CannotWrite, Memory}

-- ---- Before anything is made

-- a path is one of these files'
abbrev pub IsOneOf : List NewFile → List ℕ → Type 0
IsOneOf files path = Any (λ file. path_of file ≡ path) files

-- a path is none of these files'
abbrev pub IsNoneOf : List NewFile → List ℕ → Type 0
IsNoneOf files path = All (λ file. path_of file ≢ path) files

-- no two files have one path
abbrev pub AreApart : List NewFile → Type 0
AreApart files = AllPairs (λ one other. path_of one ≢ path_of other) files

-- no two files have one path, and nothing may be at their paths
abbrev pub AreNew : FileAnswers → List NewFile → Type 0
AreNew gives files = AreApart files × All (λ file. MayBeAbsent gives (path_of file)) files

-- nothing may be at a path, and none of the earlier files has it
abbrev pub IsFree : FileAnswers → List NewFile → List ℕ → Type 0
IsFree gives earlier path = MayBeAbsent gives path × IsNoneOf earlier path

-- something may be at a path, or an earlier file has it
abbrev pub IsTaken : FileAnswers → List NewFile → List ℕ → Type 0
IsTaken gives earlier path = MayBeThere gives path ⊎ IsOneOf earlier path

-- the file at a place has this path
abbrev pub HasPathAt : List NewFile → ℕ → List ℕ → Type 0
HasPathAt files place path = option_map path_of (slice_get files place) ≡ Some path

-- the fault names the path of the first file that isn't new; or memory ran out
abbrev pub IsThereAlready : FileAnswers → List NewFile → RunFault → Type 0
IsThereAlready gives files (AlreadyThere path) =
    (place : ℕ) × HasPathAt files place (string_bytes path) × AreNew gives (take place files) × IsTaken gives (take place files) (string_bytes path)
IsThereAlready gives files Memory = Unit {0}
IsThereAlready gives files fault = ⊥

-- ---- While they are made

-- a source looks in the same folders as before, and may answer the same for each path but those of
-- these files
abbrev pub OnlyTheseChange : FileAnswers → FileAnswers → List NewFile → Type 0
OnlyTheseChange old new files = (new.folders ≡ old.folders) × ((p : List ℕ) (a : FileAnswer) → IsNoneOf files p → new.may p a ≡ old.may p a)

-- files were written, and no other file changed
abbrev pub AreWritten : List NewFile → FileAnswers → FileAnswers → Type 0
AreWritten files before after = All (IsGivenBy after) files × OnlyTheseChange before after files

-- the files before a place were written, and no other file changed but the one at that place
abbrev pub AreWrittenBefore : ℕ → List NewFile → FileAnswers → FileAnswers → Type 0
AreWrittenBefore place files before after = All (IsGivenBy after) (take place files) × OnlyTheseChange before after (take (place + 1) files)

-- the file at the place of the fault, or at some place where memory ran out, wasn't written
abbrev pub StopsAt : List NewFile → FileAnswers → FileAnswers → Failure ℕ → Type 0
StopsAt files before after (failures.Fault place) = (place < length files) × AreWrittenBefore place files before after
StopsAt files before after failures.Memory = (place : ℕ) × AreWrittenBefore place files before after

-- the fault names the file at a place, and has the files before it
abbrev pub IsNamed : List NewFile → ℕ → RunFault → Type 0
IsNamed files place (CannotWrite path made) = HasPathAt files place (string_bytes path) × (made.items ≡ take place files)
IsNamed files place fault = ⊥

-- Files were made. Or the fault names the first that isn't new, and no file changed; or it names
-- one that couldn't be written, and those before it were; or memory ran out at one of them.
abbrev pub AreMade : List NewFile → FileAnswers → FileAnswers → Result (Unit {0}) RunFault → Type 0
AreMade files before after (Ok done) = AreNew before files × AreWritten files before after
AreMade files before after (Err (AlreadyThere path)) = IsThereAlready before files (AlreadyThere path) × (after ≡ before)
AreMade files before after (Err (CannotWrite path made)) =
    AreNew before files × ((place : ℕ) × IsNamed files place (CannotWrite path made) × AreWrittenBefore place files before after)
AreMade files before after (Err Memory) = (place : ℕ) × AreWrittenBefore place files before after
AreMade files before after (Err fault) = ⊥

-- ---- The files of an answer

-- the files after those of an answer were written
abbrev pub FilesAfter : FileAnswers → FileAnswers → NewFiles → Type 0
FilesAfter before after Nothing = after ≡ before
FilesAfter before after (InPlace file) = IsWritten file before after
FilesAfter before after (AllNew files) = AreNew before files.items × AreWritten files.items before after

-- the files of an answer were written, or the fault says how far they were
abbrev pub ArePutInto : NewFiles → FileAnswers → FileAnswers → Result (Unit {0}) RunFault → Type 0
ArePutInto files before after (Ok done) = FilesAfter before after files
ArePutInto Nothing before after (Err fault) = ⊥
ArePutInto (InPlace file) before after (Err fault) = IsPutInto file before after (Err fault)
ArePutInto (AllNew files) before after (Err fault) = AreMade files.items before after (Err fault)
