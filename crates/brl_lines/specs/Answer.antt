-- What a source of files answers for a path, and how it counts its failures.
-- The manual leaves open where files come from: this is the project's own choice.
use Rattle.std.specs.Prelude.{ℕ, ◌≡◌, ◌+◌, ◌^◌, ◌-◌, IsTrue, min, Bool, true, false, List, length, nat_le, if◌then◌else◌, None, Some, Ok, Err, Result, Option}
use Rattle.std.specs.Global.{Vec}
use Rattle.std.specs.Str.{bytes_eq}
use Rattle.brl_failure.specs.Failure.{IfFault}
use Rattle.brl_failure.specs.declared.failure.Failure.{Failure}
use Rattle.brl_failure.specs.declared.failure.Failure.TheVariants.{Fault}
use Rattle.brl_lines.specs.declared.source.SourceFault.{SourceFault}
use Rattle.brl_lines.specs.declared.source.SourceFault.TheVariants as faults

-- a file has these bytes, or there is none, or it has too many bytes, or it can't be read
pub data FileAnswer : Type 0 where
  Holds : List ℕ → FileAnswer
  Missing : FileAnswer
  Large : FileAnswer
  Unreadable : FileAnswer

-- what a source gives: the folders in which a file is looked for that isn't at its usual path, in
-- order, and what it may answer for each path
pub record FileAnswers : Type 0 where
  pub folders : List (List ℕ)
  pub may : List ℕ → FileAnswer → Bool

-- it may give this answer for a path
abbrev pub MayAnswer : FileAnswers → List ℕ → FileAnswer → Type 0
MayAnswer gives path answer = IsTrue (gives.may path answer)

-- it has one answer at most for each path
abbrev pub IsDeterministic : FileAnswers → Type 0
IsDeterministic gives = (path : List ℕ) (one other : FileAnswer) → MayAnswer gives path one → MayAnswer gives path other → one ≡ other

-- this source, where files are looked for in these folders
abbrev pub looking : List (List ℕ) → FileAnswers → FileAnswers
looking folders gives = record { folders = folders; may = gives.may }

-- whether two answers are the same
abbrev pub same_answer : FileAnswer → FileAnswer → Bool
same_answer (Holds bytes) (Holds other) = bytes_eq bytes other
same_answer Missing Missing = true
same_answer Large Large = true
same_answer Unreadable Unreadable = true
same_answer one other = false

-- it is known that there is no file
abbrev pub is_missing : Option FileAnswer → Bool
is_missing (Some Missing) = true
is_missing answer = false

-- the most bytes that a file may have
abbrev pub most_file_bytes : ℕ
most_file_bytes = 16777216

-- the answer for a path where these bytes lie, or no file
abbrev pub answer_of : Option (List ℕ) → FileAnswer
answer_of None = Missing
answer_of (Some bytes) = if nat_le (length bytes) most_file_bytes then Holds bytes else Large

-- the answer that a fault is
abbrev pub answer_of_fault : SourceFault → FileAnswer
answer_of_fault faults.NotFound = Missing
answer_of_fault faults.TooLarge = Large
answer_of_fault faults.Failed = Unreadable

-- what a read returned is an answer that may be given, unless memory ran out
abbrev pub IsAnswer : (FileAnswer → Type 0) → Result (Vec ℕ) (Failure SourceFault) → Type 0
IsAnswer gives (Ok bytes) = gives (Holds bytes.items)
IsAnswer gives (Err failure) = IfFault (λ fault. gives (answer_of_fault fault)) failure

-- the source failed at this read
abbrev pub read_failed : Result (Vec ℕ) (Failure SourceFault) → Bool
read_failed (Err (Fault faults.Failed)) = true
read_failed outcome = false

-- the count of failures: one more after a failure, up to the greatest number
abbrev pub failures_after : ℕ → Bool → ℕ
failures_after count failed = if failed then min (count + 1) (2 ^ 64 - 1) else count
