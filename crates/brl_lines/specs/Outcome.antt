-- What the outcome of a load says of the definitions, and of the source. The project's own.
use Rattle.std.specs.Prelude.{◌≡◌, ℕ, ◌⊎◌, Bool, true, false, List, map, Result, Ok, Err}
use Rattle.std.specs.List.{AllByRecursion}
use Rattle.brl_failure.specs.Failure.{IfFault}
use Rattle.brl_failure.specs.declared.failure.Failure.{Failure}
use Rattle.brl_failure.specs.declared.failure.Failure.TheVariants.{Fault, Memory}
use Rattle.brl_lines.specs.Answer.{Holds, FileAnswers, Unreadable, failures_after, MayAnswer}
use Rattle.brl_lines.specs.Lines.{Answers, Refusal, lines_of}
use Rattle.brl_lines.specs.Rows.{without_mark}
use Rattle.brl_lines.specs.Slices.{IsCutFrom}
use Rattle.brl_lines.specs.Tokens.{LineView}
use Rattle.brl_lines.specs.Views.{load_fault_view}
use Rattle.brl_lines.specs.declared.fault.LoadFault.{LoadFault}
use Rattle.brl_lines.specs.declared.fault.LoadFaultKind.{LoadFaultKind}
use Rattle.brl_lines.specs.declared.fault.LoadFaultKind.TheVariants as kinds

-- the source may give each of these answers
abbrev pub AreGiven : FileAnswers → Answers → Type 0
AreGiven gives answers = AllByRecursion (λ entry. MayAnswer gives entry.0 entry.1) answers

-- the lines of the table whose root is at a path, for answers of the source
abbrev pub AreLinesOf : FileAnswers → List ℕ → List LineView → Type 0
AreLinesOf gives root lines = (answers : Answers) × AreGiven gives answers × (lines_of gives.folders answers root ≡ Ok lines)

-- the lines of the table whose root is at a path, by answers of the source for just these paths
abbrev pub AreLinesOfFiles : FileAnswers → List ℕ → List (List ℕ) → List LineView → Type 0
AreLinesOfFiles gives root paths lines =
    (answers : Answers) × AreGiven gives answers × (map (λ entry. entry.0) answers ≡ paths) × (lines_of gives.folders answers root ≡ Ok lines)

-- the table whose root is at a path has no lines for answers of the source, and this is why
abbrev pub IsRefusedAs : FileAnswers → List ℕ → Refusal → Type 0
IsRefusedAs gives root want = (answers : Answers) × AreGiven gives answers × (lines_of gives.folders answers root ≡ Err want)

-- a file that is refused as unreadable is one that the source may be unable to read
abbrev pub IsReadFailure : FileAnswers → Refusal → Type 0
IsReadFailure gives want = want.kind ≡ kinds.ReadFailed → MayAnswer gives want.path Unreadable

-- why a table whose root is at a path isn't loaded; memory may run out at any file
abbrev pub IsLoadFault : FileAnswers → List ℕ → Failure LoadFault → Type 0
IsLoadFault gives root failure = IfFault (λ fault. IsRefusedAs gives root (load_fault_view fault) × IsReadFailure gives (load_fault_view fault)) failure

-- a fault of this kind is a read of a file that failed
abbrev pub is_read_failed : LoadFaultKind → Bool
is_read_failed kinds.ReadFailed = true
is_read_failed kind = false

-- The count of failures, at the start and at the end, where this is why nothing was loaded: one
-- more where a read failed, and else the same. Where memory ran out it is either.
abbrev pub CountsFailed : ℕ → ℕ → Failure LoadFault → Type 0
CountsFailed before now (Fault fault) = now ≡ failures_after before (is_read_failed fault.kind)
CountsFailed before now Memory = (now ≡ before) ⊎ (now ≡ failures_after before true)

-- the count of failures is one more where a read failed, and else as it was; where memory ran out
-- it is either
abbrev pub CountsFailure : {T : Type 0} → ℕ → ℕ → Result T (Failure LoadFault) → Type 0
CountsFailure before now (Ok loaded) = now ≡ before
CountsFailure before now (Err failure) = CountsFailed before now failure

-- the tokens of the line are slices of its file's text, for bytes that the source may give for that
-- file
abbrev pub IsLineOfFile : FileAnswers → LineView → Type 0
IsLineOfFile gives line = (bytes : List ℕ) × MayAnswer gives line.file (Holds bytes) × IsCutFrom (without_mark bytes) line
