-- What `brl survey` answers. The project's own choice.
use Rattle.std.specs.Prelude.{ℕ, ◌≡◌, ◌⊎◌, ◌||◌, All, Bool, true, false, if◌then◌else◌, nat_lt, List, [], ◌++◌, codes, flat_map, is_some, length, map, option_map, string_bytes, Option, None, Some, Result}
use Rattle.std.specs.Borrow.{Bor}
use Rattle.std.specs.List.{list_all, list_any}
use Rattle.std.specs.Option.{option_map_or}
use Rattle.brl_lines.specs.Answer.{FileAnswers}
use Rattle.brl_lines.specs.Gathering.{LeftView}
use Rattle.brl_lines.specs.Skipping.{AreLinesWithout, IsUnloaded}
use Rattle.brl_lines.specs.Tokens.{LineView}
use Rattle.brl_table.specs.Survey.{faulty_line_view, survey_of}
use Rattle.brl_table.specs.declared.readable.Cut.{Cut}
use Rattle.brl_acting.specs.WholeTable.{ActingView}
use Rattle.brl_cli.specs.declared.command.AlphabetOption.TheVariants as options
use Rattle.brl_cut.specs.Cuts.{IsCut, IsCutFault}
use Rattle.brl_cut.specs.declared.outcome.CutTable.{CutTable}
use Rattle.brl_report.specs.Survey.{IsSurveyText, skipped_line}
use Rattle.brl_answers.specs.Answers.{EndsAs, HasTextAndStatus, UnlessMemory}
use Rattle.brl_answers.specs.Status.{of_cut_fault, status_of}
use Rattle.brl_answers.specs.declared.answer.Answer.{Answer}
use Rattle.brl_answers.specs.declared.run_fault.RunFault.{RunFault}
use Rattle.brl_answers.specs.declared.run_fault.RunFault.TheVariants.{Load, NotDefined}
use Rattle.brl_answers.specs.declared.status.Status.{Status}
use Rattle.brl_answers.specs.declared.status.Status.TheVariants.{Done, Faulty, Refuted}
use Rattle.brl_tool.specs.Acting.{AreActing, with_acting}
use Rattle.brl_tool.specs.Alphabets.{ByAlphabet}
use Rattle.brl_tool.specs.Cutting.{IsReportOfCut}
use Rattle.brl_tool.specs.Suspects.{has_unknown_opcode, is_suspect}
use Rattle.brl_tool.specs.declared.survey.Report.{Report}
use Rattle.brl_without.specs.Alphabet.{AlphabetView, IsLacking, alphabet_view}
use Rattle.brl_without.specs.declared.alphabet.Alphabet.{Alphabet}

-- the lines of include lines that were skipped; a report that is brief has none
abbrev pub skipped_part : Bool → List LeftView → List ℕ
skipped_part brief skipped = if brief then [] else flat_map skipped_line skipped

-- the text is the report of a survey of these lines, of files at these paths, where these include
-- lines were skipped
abbrev pub IsReportOf : Bool → List LeftView → List LineView → List (List ℕ) → List ℕ → Type 0
IsReportOf brief skipped lines paths text =
    (surveyed : List ℕ) × IsSurveyText brief (survey_of lines) lines paths surveyed × (text ≡ skipped_part brief skipped ++ surveyed)

-- the text is the report of a survey of the table at a path, without its hyphenation dictionaries,
-- and this says whether it is suspect
abbrev pub IsReportAt : Bool → FileAnswers → List ℕ → List ℕ → Bool → Type 0
IsReportAt brief gives path text suspect =
    (skipped : List LeftView) × (paths : List (List ℕ)) × (lines : List LineView) × AreLinesWithout gives path skipped paths lines × IsReportOf brief skipped lines paths text
    × (suspect ≡ is_suspect (survey_of lines))

-- ---- The lines that can act

-- what the lines that can act say of the cut of a table: lines are rewritten in it
abbrev pub decided_cut : List ℕ
decided_cut = codes "a cut with --rewrite"

-- a cut is suspect where a line can act, or its status says so
abbrev pub is_suspect_over : Cut → List ActingView → Bool
is_suspect_over cut acting = nat_lt 0 (length acting) || has_unknown_opcode (map faulty_line_view cut.left_out.items)

-- the text is the report of this cut of the table at a path, with lines rewritten, and says which
-- lines can act on texts of an alphabet
abbrev pub IsTextOver : AlphabetView → List ActingView → Cut → List ℕ → List ℕ → Type 0
IsTextOver alphabet acting cut path text =
    (report : List ℕ) × IsReportOfCut true cut report × (text ≡ with_acting alphabet acting decided_cut path report)

-- the text is that of a table that was cut; and this says whether it is suspect
abbrev pub IsReportOfTable : AlphabetView → CutTable → List ℕ → List ℕ → Bool → Type 0
IsReportOfTable alphabet of path text suspect =
    (acting : List ActingView) × AreActing alphabet of acting
    × IsTextOver alphabet acting of.cut path text × (suspect ≡ is_suspect_over of.cut acting)

-- the text is that of the cut of the table at a path, with lines rewritten
abbrev pub IsReportOver : AlphabetView → FileAnswers → List ℕ → List ℕ → Bool → Type 0
IsReportOver alphabet gives path text suspect =
    (of : CutTable) × IsCut true gives path [] of × IsReportOfTable alphabet of path text suspect

-- there is no such report: the table can't be cut, and this is why, or its cut lacks characters of
-- the alphabet
abbrev pub IsUnreported : AlphabetView → FileAnswers → List ℕ → RunFault → Type 0
IsUnreported alphabet gives path fault =
    EndsAs of_cut_fault (IsCutFault true gives path []) fault
    ⊎ ((of : CutTable) × IsCut true gives path [] of × EndsAs NotDefined (IsLacking of.table alphabet) fault)

-- ---- Several tables

-- the alphabet, where one is given
abbrev pub alphabet_if_any : Option (Bor Alphabet) → Option AlphabetView
alphabet_if_any only = option_map (λ alphabet. alphabet_view alphabet.now) only

-- the text is the report of the table at a path, brief or not; or, where an alphabet is given,
-- which lines of it can act
abbrev pub IsReport : Bool → Option AlphabetView → FileAnswers → List ℕ → List ℕ → Bool → Type 0
IsReport brief None gives path text suspect = IsReportAt brief gives path text suspect
IsReport brief (Some alphabet) gives path text suspect = IsReportOver alphabet gives path text suspect

-- why there is none, as the program says it
abbrev pub IsRefusedAs : Option AlphabetView → FileAnswers → List ℕ → RunFault → Type 0
IsRefusedAs None gives path fault = EndsAs Load (IsUnloaded gives path) fault
IsRefusedAs (Some alphabet) gives path fault = IsUnreported alphabet gives path fault

-- why there is none, where that has the status of a fault
abbrev pub IsRefused : Option AlphabetView → FileAnswers → List ℕ → RunFault → Type 0
IsRefused only gives path fault = IsRefusedAs only gives path fault × (status_of fault ≡ Faulty)

-- a table of a survey: its path, its report if it can be loaded, and whether it is suspect
pub record Part : Type 0 where
  pub path : List ℕ
  pub report : Option (List ℕ)
  pub suspect : Bool

-- the report is that of the table at a path, or there is none, and the table isn't suspect then
abbrev pub IsReportIfAny : Bool → Option AlphabetView → FileAnswers → List ℕ → Option (List ℕ) → Bool → Type 0
IsReportIfAny brief only gives path (Some text) suspect = IsReport brief only gives path text suspect
IsReportIfAny brief only gives path None suspect = (fault : RunFault) × IsRefused only gives path fault × (suspect ≡ false)

-- as the code has it
abbrev pub IsIfAny : Bool → Option AlphabetView → FileAnswers → List ℕ → Option Report → Type 0
IsIfAny brief only gives path (Some report) = IsReport brief only gives path (string_bytes report.text) report.suspect
IsIfAny brief only gives path None = (fault : RunFault) × IsRefused only gives path fault

-- a part of a survey is the report of the table at its path, or there is none
abbrev pub IsPart : Bool → Option AlphabetView → FileAnswers → Part → Type 0
IsPart brief only gives part = IsReportIfAny brief only gives part.path part.report part.suspect

-- a report; where there are several tables, after a line with the path
abbrev pub part_text : Bool → List ℕ → List ℕ → List ℕ
part_text several path report = (if several then codes "table: " ++ path ++ codes "\n" else []) ++ report

-- the text of a part; empty for a table without a report
abbrev pub text_of_part : Bool → Part → List ℕ
text_of_part several part = option_map_or (part_text several part.path) part.report []

-- the status where all tables have reports, or not, and where one is suspect
abbrev pub status_by : Bool → Bool → Status
status_by loaded suspect = if loaded then (if suspect then Refuted else Done) else Faulty

-- the status: that of a fault where a table has no report, and that of a refutation where one is
-- suspect
abbrev pub survey_status : List Part → Status
survey_status parts = status_by (list_all (λ part. is_some part.report) parts) (list_any (λ part. part.suspect) parts)

-- the status after the report of one more table
abbrev pub status_after_report : Status → Bool → Status
status_after_report Done true = Refuted
status_after_report status suspect = status

-- a survey of the table at a path finds that it is suspect
abbrev pub IsSuspectAt : FileAnswers → List ℕ → Type 0
IsSuspectAt gives path =
    (skipped : List LeftView) × (paths : List (List ℕ)) × (lines : List LineView) × AreLinesWithout gives path skipped paths lines × (is_suspect (survey_of lines) ≡ true)

-- the last line of a survey
abbrev pub no_verdict : List ℕ
no_verdict = codes "no verdict: a survey doesn't decide whether two texts have the same cells\n"

-- the answer of a survey of the tables at these paths: a part for each, in order, and a last line
abbrev pub IsSurvey : Bool → Option AlphabetView → FileAnswers → List (List ℕ) → Answer → Type 0
IsSurvey brief only gives paths answer =
    (parts : List Part) × (map (λ part. part.path) parts ≡ paths) × All (IsPart brief only gives) parts
    × HasTextAndStatus (survey_status parts) (flat_map (text_of_part (nat_lt 1 (length paths))) parts ++ no_verdict) answer

-- the tables at these paths were surveyed
abbrev pub SurveysByFiles : Bool → Option AlphabetView → FileAnswers → List (List ℕ) → Result Answer RunFault → Type 0
SurveysByFiles brief only gives paths outcome = UnlessMemory (IsSurvey brief only gives paths) outcome

-- and where characters are given, on texts of those that the word spells
abbrev pub Surveys : Bool → Option (Bor (List ℕ)) → FileAnswers → List (List ℕ) → Result Answer RunFault → Type 0
Surveys brief None gives paths outcome = SurveysByFiles brief None gives paths outcome
Surveys brief (Some word) gives paths outcome = ByAlphabet (options.Only word) (λ alphabet. SurveysByFiles brief (Some alphabet) gives paths) outcome
