-- What `brl cut` answers. The project's own choice.
use Rattle.std.specs.Prelude.{ℕ, zero, suc, ◌≡◌, Bool, if◌then◌else◌, List, ◌++◌, codes, length, map, Option, None, Some, Result, string_bytes}
use Rattle.std.specs.Borrow.{Bor}
use Rattle.std.specs.Global.{Vec}
use Rattle.brl_acting.specs.WholeTable.{ActingView}
use Rattle.brl_cli.specs.declared.command.AlphabetOption.TheVariants as options
use Rattle.brl_lines.specs.Answer.{FileAnswers}
use Rattle.brl_table.specs.Survey.{faulty_line_view}
use Rattle.brl_table.specs.declared.readable.Cut.{Cut}
use Rattle.brl_report.specs.Survey.{IsCutText}
use Rattle.brl_cut.specs.Cuts.{IsCut, IsCutFault, IsRead, IsUnwritten, written_root}
use Rattle.brl_cut.specs.Edits.{Texts}
use Rattle.brl_cut.specs.Files.{file_view}
use Rattle.brl_cut.specs.Marks.{marked_files}
use Rattle.brl_cut.specs.declared.outcome.CutTable.{CutTable}
use Rattle.brl_answers.specs.Answers.{EndsAs, Then, UnlessMemory}
use Rattle.brl_answers.specs.Status.{of_cut_fault}
use Rattle.brl_answers.specs.declared.answer.Answer.{Answer}
use Rattle.brl_answers.specs.declared.new_files.NewFile.{NewFile}
use Rattle.brl_answers.specs.declared.new_files.NewFiles.{NewFiles}
use Rattle.brl_answers.specs.declared.new_files.NewFiles.TheVariants.{AllNew}
use Rattle.brl_answers.specs.declared.run_fault.RunFault.{RunFault}
use Rattle.brl_answers.specs.declared.run_fault.RunFault.TheVariants.{NotDefined}
use Rattle.brl_answers.specs.declared.status.Status.{Status}
use Rattle.brl_answers.specs.declared.status.Status.TheVariants.{Done, Refuted}
use Rattle.brl_tool.specs.Acting.{AreActing, left_out_places, with_acting}
use Rattle.brl_tool.specs.Alphabets.{ByAlphabet}
use Rattle.brl_tool.specs.Suspects.{has_unknown_opcode}
use Rattle.brl_without.specs.Alphabet.{AlphabetView, IsLacking}

-- a file that is to be written, with its path and its bytes
abbrev pub new_file_view : NewFile → List ℕ × List ℕ
new_file_view file = (string_bytes file.path, file.bytes.items)

-- the text is the report of a cut
abbrev pub IsReportOfCut : Bool → Cut → List ℕ → Type 0
IsReportOfCut rewrite cut report =
    IsCutText rewrite cut.rewritten (map faulty_line_view cut.left_out.items) (map string_bytes cut.line_files.items) (map string_bytes cut.paths.items) report

-- the text is that, and a last line
abbrev pub IsTextOfCut : Bool → Cut → List ℕ → Type 0
IsTextOfCut rewrite cut text =
    (report : List ℕ) × IsReportOfCut rewrite cut report × (text ≡ report ++ codes "no verdict: a cut doesn't decide whether two texts have the same cells\n")

-- the status of a cut: that of a refutation where the opcode of a line that is left out is none of
-- liblouis'
abbrev pub status_of_cut : Cut → Status
status_of_cut cut = if has_unknown_opcode (map faulty_line_view cut.left_out.items) then Refuted else Done

-- these texts are written as new files
abbrev pub AreNewFiles : Texts → NewFiles → Type 0
AreNewFiles texts files = (new : Vec NewFile) × (files ≡ AllNew new) × (map new_file_view new.items ≡ texts)

-- the answer with a cut, with or without lines rewritten: its files are new ones
abbrev pub IsCutAnswer : Bool → Cut → Answer → Type 0
IsCutAnswer rewrite cut answer =
    (answer.status ≡ status_of_cut cut) × IsTextOfCut rewrite cut (string_bytes answer.text) × AreNewFiles (map file_view cut.files.items) answer.files

-- ---- The lines that can act

-- the status where this many lines can act
abbrev pub status_over : Status → ℕ → Status
status_over status zero = status
status_over status (suc acting) = Refuted

-- the text of a cut, and in it the alphabet, and these lines, which can act
abbrev pub IsTextOverCut : Bool → List ℕ → List ℕ → AlphabetView → Cut → List ActingView → List ℕ → Type 0
IsTextOverCut rewrite path dir alphabet cut acting text =
    (plain : List ℕ) × IsTextOfCut rewrite cut plain × (text ≡ with_acting alphabet acting (written_root dir path) path plain)

-- the answer with a cut, with these lines, which can act, and with these files
abbrev pub IsActingAnswer : Bool → List ℕ → List ℕ → AlphabetView → Cut → List ActingView → Texts → Answer → Type 0
IsActingAnswer rewrite path dir alphabet cut acting texts answer =
    (answer.status ≡ status_over (status_of_cut cut) (length acting)) × IsTextOverCut rewrite path dir alphabet cut acting (string_bytes answer.text)
    × AreNewFiles texts answer.files

-- these are the files of a cut, where the lines that are left out and can act are marked; and they
-- define a table
abbrev pub AreMarked : List ℕ → List ℕ → CutTable → List ActingView → Texts → Type 0
AreMarked path dir of acting texts = (texts ≡ marked_files (left_out_places acting) of) × IsRead texts (written_root dir path)

-- the cut is answered with these lines, which can act; or, which never comes, its files define no
-- table once lines are marked
abbrev pub AnswersOver : Bool → List ℕ → List ℕ → AlphabetView → CutTable → List ActingView → Result Answer RunFault → Type 0
AnswersOver rewrite path dir alphabet of acting outcome =
    Then (AreMarked path dir of acting) (EndsAs of_cut_fault (IsUnwritten (marked_files (left_out_places acting) of) path dir))
    (λ texts. UnlessMemory (IsActingAnswer rewrite path dir alphabet of.cut acting texts)) outcome

-- the lines of a cut that can act are found, and answered; or the cut lacks characters
abbrev pub JudgesCut : Bool → List ℕ → List ℕ → AlphabetView → CutTable → Result Answer RunFault → Type 0
JudgesCut rewrite path dir alphabet of outcome =
    Then (AreActing alphabet of) (EndsAs NotDefined (IsLacking of.table alphabet)) (AnswersOver rewrite path dir alphabet of) outcome

-- ---- The command

-- what is answered once the table of the file at a path was cut for a folder; or this is why it
-- isn't
abbrev pub IfCut : Bool → FileAnswers → List ℕ → List ℕ → (CutTable → Result Answer RunFault → Type 0) → Result Answer RunFault → Type 0
IfCut rewrite gives path dir answers outcome =
    Then (IsCut rewrite gives path dir) (EndsAs of_cut_fault (IsCutFault rewrite gives path dir)) answers outcome

-- the table of the file at a path was cut for a folder
abbrev pub CutsAlone : Bool → FileAnswers → List ℕ → List ℕ → Result Answer RunFault → Type 0
CutsAlone rewrite gives path dir outcome = IfCut rewrite gives path dir (λ of. UnlessMemory (IsCutAnswer rewrite of.cut)) outcome

-- and its lines were judged on texts of the characters that a word spells
abbrev pub CutsOver : Bor (List ℕ) → Bool → FileAnswers → List ℕ → List ℕ → Result Answer RunFault → Type 0
CutsOver word rewrite gives path dir outcome =
    ByAlphabet (options.Only word) (λ alphabet. IfCut rewrite gives path dir (JudgesCut rewrite path dir alphabet)) outcome

-- the one, or where characters are given the other
abbrev pub Cuts : Option (Bor (List ℕ)) → Bool → FileAnswers → List ℕ → List ℕ → Result Answer RunFault → Type 0
Cuts None rewrite gives path dir outcome = CutsAlone rewrite gives path dir outcome
Cuts (Some word) rewrite gives path dir outcome = CutsOver word rewrite gives path dir outcome
