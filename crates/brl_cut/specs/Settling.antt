-- The readable part of a table: again and again, the lines that a survey of its files finds faulty
-- become comments. The project's own choice.
use Rattle.std.specs.Prelude.{ℕ, zero, suc, ◌≡◌, if◌then◌else◌, List, [], ◌++◌, codes, fold, map, Option, Some, None, Result, Ok, Err}
use Rattle.std.specs.Str.{bytes_eq}
use Rattle.brl_lines.specs.Answer.{answer_of}
use Rattle.brl_lines.specs.Lines.{Refusal, lines_over}
use Rattle.brl_lines.specs.Tokens.{LineView}
use Rattle.brl_table.specs.FaultText.{kind_text}
use Rattle.brl_table.specs.Survey.{FaultyLineView, survey_of}
use Rattle.brl_cut.specs.Edits.{EditView, Texts, edited_files}

-- the bytes at a path, where there are some; the last file at a path decides
abbrev pub bytes_at : Texts → List ℕ → Option (List ℕ)
bytes_at files path = fold (λ found file. if bytes_eq file.0 path then Some file.1 else found) None files

-- the lines of the table whose root has a path, of these files and no others, which are looked for
-- in these folders too
abbrev pub lines_among : List (List ℕ) → Texts → List ℕ → Result (List LineView) Refusal
lines_among folders files root = lines_over folders (λ path. Some (answer_of (bytes_at files path))) root

-- the faulty lines that a survey finds among lines
abbrev pub faulty_among : Result (List LineView) Refusal → List FaultyLineView
faulty_among (Ok lines) = (survey_of lines).faulty
faulty_among (Err refused) = []

-- what makes a line a comment, which says why: `# ` and the reason and `: ` come before it
abbrev pub comment : List ℕ → List ℕ
comment reason = codes "# " ++ (reason ++ codes ": ")

-- the edit of a faulty line: a comment with the code, the name and the subject of its fault
abbrev pub fault_edit : FaultyLineView → EditView
fault_edit faulty = record {
  file = faulty.fault.file;
  line = faulty.fault.line;
  prefix = comment (kind_text faulty.fault.fault.kind ++ (codes " " ++ faulty.fault.fault.subject));
}

-- the faulty lines of these files
abbrev pub faulty_in : List (List ℕ) → List ℕ → Texts → List FaultyLineView
faulty_in folders root files = faulty_among (lines_among folders files root)

-- the files after one round: their faulty lines are comments
abbrev pub round : List (List ℕ) → List ℕ → Texts → Texts
round folders root files = edited_files (map fault_edit (faulty_in folders root files)) files

-- the files after this many rounds
abbrev pub after_rounds : ℕ → List (List ℕ) → List ℕ → Texts → Texts
after_rounds zero folders root files = files
after_rounds (suc rounds) folders root files = round folders root (after_rounds rounds folders root files)

-- the faulty lines that were found in these rounds
abbrev pub found_in_rounds : ℕ → List (List ℕ) → List ℕ → Texts → List FaultyLineView
found_in_rounds zero folders root files = []
found_in_rounds (suc rounds) folders root files =
    found_in_rounds rounds folders root files ++ faulty_in folders root (after_rounds rounds folders root files)

-- these files come of others by rounds, up to one that finds no faulty line, and these lines were
-- found; the others are the lines of the table
pub record IsSettled (folders : List (List ℕ)) (root : List ℕ) (files settled : Texts) (found : List FaultyLineView) (lines : List LineView) : Type 0 where
  pub rounds : ℕ
  pub files_are : settled ≡ after_rounds rounds folders root files
  pub found_are : found ≡ found_in_rounds rounds folders root files
  pub lines_are : lines_among folders settled root ≡ Ok lines
  pub none_left : (survey_of lines).faulty ≡ []
