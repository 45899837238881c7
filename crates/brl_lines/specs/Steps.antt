-- Internal. What the single steps of a load do, in the words of the definitions.
use Rattle.std.specs.Global.{Global}
use Rattle.std.specs.Prelude.{◌≡◌, Bool, true, false, not, ℕ, ◌+◌, ◌<◌, ◌≤◌, IfSome, List, [], ◌∷◌, ◌++◌, length, map, Option, None, Some, Result, Ok, Err, String, string_bytes}
use Rattle.std.specs.List.{AllByRecursion, enumerate_from, flat_map, list_any}
use Rattle.std.specs.Str.{IsCharBoundary, bytes_eq}
use Rattle.brl_failure.specs.Failure.{IfFault}
use Rattle.brl_failure.specs.declared.failure.Failure.{Failure}
use Rattle.brl_lines.specs.Answer.{FileAnswer, FileAnswers, MayAnswer, Missing, is_missing}
use Rattle.brl_lines.specs.Files.{Files, answer_for, answers_of, chain_of, path_at, span_lines, text_at}
use Rattle.brl_lines.specs.Gathered.{walk_view, walk_with, way_view}
use Rattle.brl_lines.specs.Includes.{first_there, name_of, paths_in}
use Rattle.brl_lines.specs.Lines.{Answers, Follow, LocationView, Refusal, Take, Walk, WayView, answer_at, entered, expanded, follow, gathered_at, gathers, loaded_at, taken, text_of, walk_over, with_file}
use Rattle.brl_lines.specs.Outcome.{AreGiven, IsReadFailure}
use Rattle.brl_lines.specs.Rows.{piece, rows}
use Rattle.brl_lines.specs.Tokens.{LineView, line_of, lines_in, token_of, tokens}
use Rattle.brl_lines.specs.Views.{load_fault_view}
use Rattle.brl_lines.specs.declared.checked_file.CheckedFile.{CheckedFile}
use Rattle.brl_lines.specs.declared.expand.Expansion.{Expansion}
use Rattle.brl_lines.specs.declared.fault.LoadFault.{LoadFault}
use Rattle.brl_lines.specs.declared.open_file.OpenFile.{OpenFile}
use Rattle.brl_lines.specs.declared.row.FileRow.{FileRow}
use Rattle.brl_lines.specs.declared.row.RowKind.{RowKind}
use Rattle.brl_lines.specs.declared.row.RowKind.TheVariants.{Include, Line, Nothing}
use Rattle.brl_lines.specs.declared.span.LineSpan.{LineSpan}
use Rattle.brl_lines.specs.declared.way.Policy.{Policy}
use Rattle.brl_lines.specs.declared.way.Way.{Way}

-- ---- spans and rows

-- the lines of what is left of a text, whose first row has this number
abbrev pub lines_from : List ℕ → ℕ → List (ℕ × ℕ) → List LineView
lines_from file number left = flat_map (λ row. line_of file row.0 (map token_of (tokens row.1))) (enumerate_from number (rows left))

-- a span is within the text of its file
pub record IsSpan (files : Files) (span : LineSpan) : Type 0 where
  pub file : span.file < length files
  pub range : span.from ≤ span.to
  pub within : span.to ≤ length (text_at files span.file)
  pub from_boundary : IsCharBoundary (text_at files span.file) span.from
  pub to_boundary : IsCharBoundary (text_at files span.file) span.to

-- each of the spans is
abbrev pub AreSpans : Files → List LineSpan → Type 0
AreSpans files spans = AllByRecursion (IsSpan files) spans

-- what a row is, by the line that it makes
abbrev pub IsKindOf : List ℕ → ℕ → List LineView → RowKind → Type 0
IsKindOf file number lines Nothing = lines ≡ []
IsKindOf file number lines Line = (line : LineView) × (lines ≡ line ∷ []) × (name_of line ≡ None)
IsKindOf file number lines (Include include) = (line : LineView) × (lines ≡ line ∷ []) × (name_of line ≡ Some (string_bytes include.name)) × (line.file ≡ file) × (line.line ≡ number) × (include.line ≡ number)

-- a file is among those that were read
pub record IsOpen (files : Files) (file : OpenFile) : Type 0 where
  pub within : file.index < length files
  pub path : path_at files file.index ≡ string_bytes file.path

-- the row of a file that starts at a place of its text, and what is left after it
pub record IsRow (files : Files) (file : OpenFile) (number from : ℕ) (row : FileRow) : Type 0 where
  pub after : from < row.next
  pub within : row.next ≤ length (text_at files file.index)
  pub boundary : IsCharBoundary (text_at files file.index) row.next
  pub span : IsSpan files row.span
  pub kind : IsKindOf (string_bytes file.path) number (span_lines files row.span) row.kind
  pub left : lines_from (string_bytes file.path) number (piece (text_at files file.index) from (length (text_at files file.index)))
      ≡ span_lines files row.span ++ lines_from (string_bytes file.path) (number + 1) (piece (text_at files file.index) row.next (length (text_at files file.index)))

-- the next row of a file from a place on, or none is left
abbrev pub IsRowAt : Files → OpenFile → ℕ → ℕ → Option FileRow → Type 0
IsRowAt files file number from None = from ≡ length (text_at files file.index)
IsRowAt files file number from (Some row) = IsRow files file number from row

-- ---- steps

-- answers that have those of the files
abbrev pub Extends : Files → (List ℕ → Option FileAnswer) → Type 0
Extends files answer = (path : List ℕ) (a : FileAnswer) → answer_at (answers_of files) path ≡ Some a → answer path ≡ Some a

-- files were added after the others, and the source gave all of them
pub record Grows (gives : FileAnswers) (old new : Files) : Type 0 where
  pub more : Files
  pub kept : new ≡ old ++ more
  pub given : AreGiven gives (answers_of new)

-- the definition has this fault too, over answers that the source may give and that have those of
-- the files
pub record FailsAs {U : Type 0} (gives : FileAnswers) (files : Files) (want : (List ℕ → Option FileAnswer) → Result U Refusal) (fault : Refusal) : Type 0 where
  pub answers : Answers
  pub given : AreGiven gives answers
  pub extends : Extends files (answer_at answers)
  pub fails : want (answer_at answers) ≡ Err fault
  pub unreadable : IsReadFailure gives fault

-- a step failed with this fault, by what the source may answer, unless memory ran out
abbrev pub Fails : {U : Type 0} → FileAnswers → Files → ((List ℕ → Option FileAnswer) → Result U Refusal) → Failure LoadFault → Type 0
Fails gives files want failure = IfFault (λ fault. FailsAs gives files want (load_fault_view fault)) failure

-- the source gave the file at a path, which is checked, or none; or an answer for which it is
-- refused
abbrev pub Reads : FileAnswers → List ℕ → Option LocationView → Result (Option CheckedFile) (Failure LoadFault) → Type 0
Reads gives path place (Ok file) = MayAnswer gives path (answer_for file)
Reads gives path place (Err failure) =
    IfFault (λ fault. (answer : FileAnswer) × MayAnswer gives path answer × (text_of path place (Some answer) ≡ Err (load_fault_view fault)) × IsReadFailure gives (load_fault_view fault)) failure

-- the file with this index is the one at a path, and its text is good
pub record Finds (files : Files) (path : List ℕ) (index : ℕ) : Type 0 where
  pub within : index < length files
  pub path_is : path_at files index ≡ path
  pub text_is : (answer : List ℕ → Option FileAnswer) → Extends files answer → (place : Option LocationView) → text_of path place (answer path) ≡ Ok (text_at files index)

-- the index of the file at a path, or none where it is known that there is no file
abbrev pub IsIndexAt : Files → List ℕ → Option ℕ → Type 0
IsIndexAt files path None = answer_at (answers_of files) path ≡ Some Missing
IsIndexAt files path (Some index) = Finds files path index

-- it is known what is at a path
abbrev pub IsSeen : Files → List ℕ → Type 0
IsSeen files path = (answer : FileAnswer) × (answer_at (answers_of files) path ≡ Some answer)

-- it is known whether there is a file at a path
pub record Sees (gives : FileAnswers) (old new : Files) (path : List ℕ) (there : Bool) : Type 0 where
  pub grows : Grows gives old new
  pub answer : FileAnswer
  pub known : answer_at (answers_of new) path ≡ Some answer
  pub is : is_missing (Some answer) ≡ not there

-- the first of some paths where there is a file, or else another, over any answers that have those
-- of the files
pub record FindsFirst (gives : FileAnswers) (old new : Files) (paths : List (List ℕ)) (other path : List ℕ) : Type 0 where
  pub grows : Grows gives old new
  pub seen : IsSeen new path
  pub first_is : (answer : List ℕ → Option FileAnswer) → Extends new answer → first_there answer paths other ≡ path

-- the path at which a file is found that has a name and a usual path
abbrev pub Locates : FileAnswers → Files → Files → List ℕ → List ℕ → List ℕ → Type 0
Locates gives old new usual name path = FindsFirst gives old new (usual ∷ paths_in gives.folders name) usual path

-- the text of the file that is found at the first of some paths, or else at another
abbrev pub text_of_first : List (List ℕ) → List ℕ → Option LocationView → (List ℕ → Option FileAnswer) → Result (List ℕ) Refusal
text_of_first paths other place answer = text_of (first_there answer paths other) place (answer (first_there answer paths other))

-- the text of the file that is found by its name and its usual path
abbrev pub text_of_found : List (List ℕ) → List ℕ → List ℕ → Option LocationView → (List ℕ → Option FileAnswer) → Result (List ℕ) Refusal
text_of_found folders usual name place answer = text_of_first (usual ∷ paths_in folders name) usual place answer

-- the lines of a file can be added to a table that is being loaded
pub record IsReady (gives : FileAnswers) (table : Expansion) (file : OpenFile) : Type 0 where
  pub given : AreGiven gives (answers_of table.files.entries)
  pub opened : IsOpen table.files.entries file
  pub spans : AreSpans table.files.entries table.spans.items

-- what the definition says of a walk, by what is known of each path
abbrev pub Wants : Type 0
Wants = (List ℕ → Option FileAnswer) → Walk → Result Walk Refusal

-- the walk on from an include line of a file
abbrev pub take_in : Policy → List (List ℕ) → List ℕ → OpenFile → (List ℕ → Option FileAnswer) → Take
take_in policy folders root file answer =
    taken policy folders answer root file.depth_left (follow policy folders answer root file.depth_left (chain_of file)) (chain_of file)

-- the walk on from an include line of a file that is looked for
abbrev pub enter_in : Policy → List (List ℕ) → List ℕ → OpenFile → (List ℕ → Option FileAnswer) → Take
enter_in policy folders root file answer =
    entered policy folders answer root file.depth_left (follow policy folders answer root file.depth_left (chain_of file)) (chain_of file)

-- the walk came to the file at a path before: at all, where files are gathered, and else on the way
-- to the file that leads to it
abbrev pub comes_again : Bool → WayView → List (List ℕ) → List ℕ → Bool
comes_again true way chain path = list_any (bytes_eq path) way.paths
comes_again false way chain path = list_any (bytes_eq path) chain

-- the walk on from an include line whose file is at a path, where files are gathered, or all loaded
abbrev pub at_path : Bool → Follow → (List ℕ → Option FileAnswer) → List (List ℕ) → LocationView → List ℕ → List ℕ → Walk → Result Walk Refusal
at_path true follow answer chain place name path walk = gathered_at follow answer place name path walk
at_path false follow answer chain place name path walk = loaded_at follow answer chain place name path walk

-- the walk on from an include line of a file, whose own is found at a path
abbrev pub at_in : Policy → List (List ℕ) → List ℕ → OpenFile → List ℕ → (List ℕ → Option FileAnswer) → Take
at_in policy folders root file path answer place name walk =
    at_path (gathers policy) (follow policy folders answer root file.depth_left (chain_of file)) answer (chain_of file) place name path walk

-- the walk on through the lines of a file with this text
abbrev pub walk_in : Policy → List (List ℕ) → List ℕ → OpenFile → List ℕ → Wants
walk_in policy folders root file text answer walk = expanded (take_in policy folders root file answer) (lines_in (string_bytes file.path) text) walk

-- the walk on through a file that was opened, if one was
abbrev pub walk_if : Policy → List (List ℕ) → List ℕ → Files → Option OpenFile → Wants
walk_if policy folders root files None answer walk = Ok walk
walk_if policy folders root files (Some file) answer walk = walk_in policy folders root file (text_at files file.index) answer walk

-- a file was opened, if one was, which is less deep than the one that leads to it
abbrev pub IsInner : Files → OpenFile → OpenFile → Type 0
IsInner files file inner = IsOpen files inner × (inner.depth_left < file.depth_left)

-- an include line of a file was taken: a file was opened if the walk goes on through it
pub record Takes (gives : FileAnswers) (policy : Policy) (root : List ℕ) (file : OpenFile) (old new : Expansion) (want : Wants) (inner : Option OpenFile) : Type 0 where
  pub grows : Grows gives old.files.entries new.files.entries
  pub spans : new.spans ≡ old.spans
  pub opened : IfSome inner (IsInner new.files.entries file)
  pub goes : (answer : List ℕ → Option FileAnswer) → Extends new.files.entries answer → (lines : List LineView)
      → want answer (walk_with lines old.way) ≡ walk_if policy gives.folders root new.files.entries inner answer (walk_with lines new.way)

-- it was refused, whatever lines there are before it
abbrev pub FailsFrom : FileAnswers → Expansion → Wants → Failure LoadFault → Type 0
FailsFrom gives table want failure = (lines : List LineView) → Fails gives table.files.entries (λ answer. want answer (walk_with lines table.way)) failure

-- a file was opened on a way, to which an include line at a place leads by a name
pub record Opens (old new : Way) (file : OpenFile) (name : List ℕ) (path : String Global) (index : ℕ) (inner : OpenFile) : Type 0 where
  pub index_is : inner.index ≡ index
  pub path_is : inner.path ≡ path
  pub chain_is : map string_bytes inner.includers.items ≡ chain_of file
  pub depth_is : file.depth_left ≡ inner.depth_left + 1
  pub way_is : way_view new ≡ with_file (string_bytes path) name (way_view old)

-- the walk went on through lines, as the definition says over any answers that have those of the
-- files
pub record Expands (gives : FileAnswers) (old new : Expansion) (want : Wants) : Type 0 where
  pub grows : Grows gives old.files.entries new.files.entries
  pub spans : AreSpans new.files.entries new.spans.items
  pub goes : (answer : List ℕ → Option FileAnswer) → Extends new.files.entries answer → want answer (walk_view old) ≡ Ok (walk_view new)

-- ---- whole walks

-- the whole walk from a root, by answers of the source for the files
pub record Walks (gives : FileAnswers) (policy : Policy) (root : List ℕ) (table : Expansion) : Type 0 where
  pub given : AreGiven gives (answers_of table.files.entries)
  pub spans : AreSpans table.files.entries table.spans.items
  pub goes : walk_over policy gives.folders (answer_at (answers_of table.files.entries)) root ≡ Ok (walk_view table)

-- it ends with this fault, for answers of the source
pub record Stops (gives : FileAnswers) (policy : Policy) (root : List ℕ) (fault : LoadFault) : Type 0 where
  pub answers : Answers
  pub given : AreGiven gives answers
  pub fails : walk_over policy gives.folders (answer_at answers) root ≡ Err (load_fault_view fault)
  pub unreadable : IsReadFailure gives (load_fault_view fault)
