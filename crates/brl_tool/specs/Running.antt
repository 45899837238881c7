-- What a run of the program does. The project's own choice. `same` says which paths may name one
-- file, `input` what is left of the input where that is known.
use Rattle.std.specs.Prelude.{ℕ, ◌≡◌, ◌≢◌, ◌<◌, ◌==◌, ◌⊎◌, All, Bool, true, false, if◌then◌else◌, IsTrue, length, List, [], ◌++◌, map, Option, None, Some, Result, Ok, Err, String, codes, string_bytes}
use Rattle.std.specs.Borrow.{Bor}
use Rattle.std.specs.Global.{Global, Vec}
use Rattle.std.specs.Option.{option_copied}
use Rattle.brl_accept.specs.Excusing.{IsAcceptedUpTo, IsShown}
use Rattle.brl_accept.specs.Judging.{counted}
use Rattle.brl_accepted.specs.declared.reading.Excusal.{Excusal}
use Rattle.brl_cert.specs.Reading.{spelling}
use Rattle.brl_pairs.specs.Body.{BodyView}
use Rattle.brl_lines.specs.Answer.{FileAnswer, FileAnswers, Holds, MayAnswer}
use Rattle.brl_lines.specs.Outcome.{AreLinesOf}
use Rattle.brl_table.specs.Files.{IsTableOf}
use Rattle.brl_table.specs.Reading.{AreGood, table_of}
use Rattle.brl_report.specs.Report.{report_text_with}
use Rattle.brl_report.specs.Unused.{unused_text}
use Rattle.brl_search.specs.Clashes.{ClashesDiverge}
use Rattle.brl_search.specs.Searched.{State, certificate_of}
use Rattle.brl_search.specs.Used.{AreUnused, IsRule, IsUsed}
use Rattle.brl_cells.specs.declared.form.Form.{Form}
use Rattle.brl_rules.specs.TableView.{TableView}
use Rattle.brl_rules.specs.Translation.{IsClash}
use Rattle.brl_clashes.specs.Sections.{are_whole}
use Rattle.brl_clashes.specs.ListedPairs.{has_pair}
use Rattle.brl_clashes.specs.declared.list_form.ListForm.{ListForm}
use Rattle.brl_clashes.specs.declared.section.Section.{Section}
use Rattle.brl_lines.specs.Tokens.{LineView}
use Rattle.brl_tool.specs.Alphabets.{spelled_by}
use Rattle.brl_tool.specs.Baselines.{IsBaseline, is_written, pruned_text, text_of_pairs, written_path, written_text}
use Rattle.brl_tool.specs.ByLines.{shown_lines}
use Rattle.brl_tool.specs.Comparing.{ComparesByWords}
use Rattle.brl_tool.specs.Diagnosing.{Diagnoses, IsDiagnosis, form_by}
use Rattle.brl_cut.specs.Cuts.{IsCut, IsRead, written_root}
use Rattle.brl_tool.specs.Acting.{AreActing}
use Rattle.brl_tool.specs.Cutting.{Cuts, new_file_view}
use Rattle.brl_tool.specs.Explaining.{Explains}
use Rattle.brl_tool.specs.Listing.{ListsByFile}
use Rattle.brl_answers.specs.Answers.{HasTextAndStatus, with_alphabet_line}
use Rattle.brl_tool.specs.Verdicts.{ChecksAll, Searches, accepted_line, certified_line}
use Rattle.brl_answers.specs.Delivery.{World, IsDelivered, KeepsFiles, Prints, PrintsNothing}
use Rattle.brl_answers.specs.Files.{GivesAlso, IsGivenBy, MayBeSame, OthersStay}
use Rattle.brl_answers.specs.Making.{AreNew, AreWritten, IsNoneOf}
use Rattle.brl_answers.specs.Status.{code_of, status_of}
use Rattle.brl_tool.specs.Slipping.{HasSlips, ListsSlips}
use Rattle.brl_tool.specs.Streams.{TranslatesByFile}
use Rattle.brl_tool.specs.Surveying.{IsSuspectAt, Surveys, no_verdict}
use Rattle.brl_tool.specs.Suspects.{has_unknown_opcode}
use Rattle.brl_table.specs.Survey.{faulty_line_view}
use Rattle.brl_acting.specs.WholeTable.{ActingView}
use Rattle.brl_cut.specs.declared.outcome.CutTable.{CutTable}
use Rattle.brl_tool.specs.Tracing.{TracesByWord}
use Rattle.brl_tool.specs.Unused.{ListsUnused}
use Rattle.brl_tool.specs.Excusing.{Excuses, lines_with}
use Rattle.brl_answers.specs.declared.answer.Answer.{Answer}
use Rattle.brl_answers.specs.declared.new_files.NewFile.{NewFile}
use Rattle.brl_answers.specs.declared.run_fault.RunFault.{RunFault}
use Rattle.brl_answers.specs.declared.status.Status.{Status}
use Rattle.brl_answers.specs.declared.status.Status.TheVariants.{Done, Faulty, Refuted, Undecided}
use Rattle.brl_failure.specs.declared.failure.Failure.{Failure}
use Rattle.brl_failure.specs.declared.failure.Failure.TheVariants as failures
use Rattle.brl_cli.specs.declared.command.AlphabetOption.{AlphabetOption}
use Rattle.brl_cli.specs.declared.command.AlphabetOption.TheVariants as alphabets
use Rattle.brl_cli.specs.declared.command.NotATask.{NotATask}
use Rattle.brl_cli.specs.declared.command.NotATask.TheVariants as not_a_task
use Rattle.brl_cli.specs.declared.command.PairFiles.{PairFiles}
use Rattle.brl_cli.specs.declared.command.Question.{Question}
use Rattle.brl_cli.specs.declared.command.Question.TheVariants as question
use Rattle.brl_cli.specs.declared.command.Task.{Task}
use Rattle.brl_cli.specs.declared.command.Work.{Work}
use Rattle.brl_cli.specs.declared.command.Task.TheVariants as task
use Rattle.brl_traces.specs.Traces.{ClashesDivergeAtWithout}
use Rattle.brl_without.specs.Alphabet.{AlphabetView, left_out_by}
use Rattle.brl_without.specs.Tables.{IsUnambiguousWithout}

-- ---- What a question is answered

-- what a command answers at once, with the paths, texts, options and limit that it has; a list of
-- clashes isn't answered so
abbrev pub AnswersAtOnce : Question → FileAnswers → MayBeSame → Result Answer RunFault → Type 0
AnswersAtOnce (question.Clash path left right options) gives same outcome = ComparesByWords options gives path.now left.now right.now outcome
AnswersAtOnce (question.Survey paths brief only) gives same outcome = Surveys brief only gives (map (λ path. path.now) paths.items) outcome
AnswersAtOnce (question.Trace path text options) gives same outcome = TracesByWord options gives path.now text.now outcome
AnswersAtOnce (question.Rules path numbers) gives same outcome = ListsByFile gives path.now numbers.items outcome
AnswersAtOnce (question.Unused path limit option) gives same outcome = ListsUnused option gives path.now limit outcome
AnswersAtOnce (question.Slips path columns) gives same outcome = ListsSlips gives path.now outcome
AnswersAtOnce (question.Explain line) gives same outcome = Explains gives line.now outcome
AnswersAtOnce (question.Cut path dir rewrite only) gives same outcome = Cuts only rewrite gives path.now dir.now outcome
AnswersAtOnce (question.Check path cert accept option) gives same outcome =
    ChecksAll gives path.now cert.now (option_copied accept) option outcome
AnswersAtOnce (question.Search path out limit accept option) gives same outcome =
    Searches gives same path.now out.now (option_copied accept) limit option outcome
AnswersAtOnce asked gives same outcome = ⊥

-- what a command answers, after what it printed: a list of clashes prints its sections when they
-- are found
abbrev pub Answers : Question → MayBeSame → World → World → Result Answer RunFault → Type 0
Answers (question.Clashes path limit first key columns option pairs) same before shown outcome =
    Diagnoses option same path.now limit (form_by columns first key) pairs before shown outcome
Answers asked same before shown outcome = AnswersAtOnce asked before.gives same outcome

-- other commands print nothing before they answer
abbrev pub KeepsOutput : Question → World → World → Type 0
KeepsOutput (question.Clashes path limit first key columns option pairs) before shown = Unit {0}
KeepsOutput asked before shown = (shown.failures ≡ before.failures) × (shown.contents ≡ before.contents)

-- ---- What the status says of a question

-- these are the lines of the table of the file at a path, and this is excused of it
abbrev pub IsExcusalOf : World → List ℕ → Option (List ℕ) → List LineView → Excusal → Type 0
IsExcusalOf before path accept lines excusal =
    AreLinesOf before.gives path lines × AreGood lines × Excuses before.gives accept (table_of lines) lines excusal

-- what a certificate shows of a table: any two texts that use none of some characters, and that it
-- translates to the same cells, are equal; or, where a file excuses pairs of rules, they are the
-- same but for these
abbrev pub IsShownBut : Option (List ℕ) → List ℕ → Excusal → TableView → Type 0
IsShownBut None left_out excusal t = IsUnambiguousWithout left_out t
IsShownBut (Some path) left_out excusal t = IsShown left_out excusal.excused t

-- an acceptance was written, which says what is left out and what is excused, and this is shown of
-- the table of the file at the path
abbrev pub ReportsAcceptance : World → World → List ℕ → Option (List ℕ) → AlphabetOption → Type 0
ReportsAcceptance before after path accept option =
    (alphabet : AlphabetView) × (spelled_by option ≡ Some alphabet)
    × ((lines : List LineView) × (excusal : Excusal) × IsExcusalOf before path accept lines excusal × IsShownBut accept (left_out_by (table_of lines) alphabet) excusal (table_of lines)
    × ((states pairs : ℕ) × Prints before after (lines_with alphabet accept excusal (accepted_line states pairs))))

-- the refusal of a certificate was written
abbrev pub ReportsRefusal : World → World → Type 0
ReportsRefusal before after = (rest : List ℕ) × Prints before after (codes "refused: " ++ rest)

-- the report of two texts that clash by the table of the file at some path was written, with lines
-- of that table or without
abbrev pub ReportsClash : World → World → Type 0
ReportsClash before after =
    (path left right cells : List ℕ) × (lines : List LineView) × AreLinesOf before.gives path lines × AreGood lines
    × IsClash (table_of lines) left right cells
    × ((with_lines : Bool) × Prints before after (report_text_with (table_of lines) (shown_lines with_lines lines) left right cells))

-- a file was written with this content, where a path for it is asked for and it is to be written;
-- no other file changed
abbrev pub WritesFile : World → World → Option (List ℕ) → Bool → List ℕ → Type 0
WritesFile before after None is content = KeepsFiles before after
WritesFile before after (Some path) false content = KeepsFiles before after
WritesFile before after (Some path) true content = GivesAlso after.gives path content × OthersStay before.gives after.gives path

-- The text of a list of clashes of the table of these lines, which are those of the file at a path,
-- was written, beside the pairs that a file accepts; the list is whole. The pairs of rules of the
-- list were written, or stale lines taken out of that file, where that is asked for.
pub record WritesList (before after : World) (path : List ℕ) (alphabet : AlphabetView) (pairs : PairFiles) (lines : List LineView) (accepted : List (ℕ × ℕ)) : Type 0 where
  pub lines_are : AreLinesOf before.gives path lines
  pub passes : AreGood lines
  pub limit : ℕ
  pub form : ListForm
  pub baseline : Option (List ℕ)
  pub read : IsBaseline before.gives (option_copied pairs.accept) baseline
  pub printed : List ℕ
  pub answer : Answer
  pub is : IsDiagnosis alphabet (table_of lines) lines limit form baseline pairs printed answer
  pub accepted_are : accepted ≡ is.accepted
  pub whole : IsTrue (are_whole is.left)
  pub prints : Prints before after (printed ++ string_bytes answer.text)
  pub written : WritesFile before after (written_path pairs) (is_written pairs.prune is.taken is.left) (written_text pairs.prune baseline (table_of lines) lines is.found is.left)

-- a list of clashes was written of the table of the file at the path, by which two texts clash that
-- use none of what the option leaves out; they diverge at a pair of rules that isn't accepted
abbrev pub ReportsOther : World → World → List ℕ → AlphabetOption → PairFiles → Type 0
ReportsOther before after path option pairs =
    (alphabet : AlphabetView) × (spelled_by option ≡ Some alphabet)
    × ((lines : List LineView) × (accepted : List (ℕ × ℕ)) × WritesList before after path alphabet pairs lines accepted
    × ((r s : ℕ) × ClashesDiverge (left_out_by (table_of lines) alphabet) (table_of lines) r s × (has_pair accepted (r, s) ≡ false)))

-- another pair of rules of the table of the file at some path was listed, with some options
abbrev pub ReportsClashes : World → World → Type 0
ReportsClashes before after = (path : List ℕ) × (option : AlphabetOption) × (pairs : PairFiles) × ReportsOther before after path option pairs

-- what no other clashes mean: no texts clash; or, where pairs are accepted, texts that clash
-- diverge at these
abbrev pub ClashAtAccepted : Option (List ℕ) → List ℕ → List (ℕ × ℕ) → TableView → Type 0
ClashAtAccepted None left_out accepted t = IsUnambiguousWithout left_out t
ClashAtAccepted (Some path) left_out accepted t = ClashesDivergeAtWithout left_out accepted t

-- a list of no clashes was written, and by the table of the file at the path no texts clash that
-- use none of what the option leaves out, but at pairs of rules that the file of accepted pairs
-- names
abbrev pub ReportsNoOther : World → World → List ℕ → AlphabetOption → PairFiles → Type 0
ReportsNoOther before after path option pairs =
    (alphabet : AlphabetView) × (spelled_by option ≡ Some alphabet)
    × ((lines : List LineView) × (accepted : List (ℕ × ℕ)) × WritesList before after path alphabet pairs lines accepted
    × ClashAtAccepted (option_copied pairs.accept) (left_out_by (table_of lines) alphabet) accepted (table_of lines))

-- the list of the rules that no text uses was written, of the table of the file at some path, for
-- texts made of the characters of some alphabet
abbrev pub ReportsUnused : World → World → Type 0
ReportsUnused before after =
    (path : List ℕ) × (alphabet : AlphabetView) × (t : TableView) × IsTableOf before.gives path t
    × ((lines : List LineView) × (numbers : List ℕ) × (numbers ≢ []) × AreUnused (left_out_by t alphabet) t numbers
    × Prints before after (with_alphabet_line alphabet (unused_text t lines numbers)))

-- a list of no rules was written, and each rule of the table of the file at the path is used by
-- some text of the characters of which the option says that texts are made
abbrev pub ReportsNoUnused : World → World → List ℕ → AlphabetOption → Type 0
ReportsNoUnused before after path option =
    (alphabet : AlphabetView) × (spelled_by option ≡ Some alphabet)
    × ((t : TableView) × IsTableOf before.gives path t × ((number : ℕ) → IsRule t number → IsUsed (left_out_by t alphabet) t number)
    × ((lines : List LineView) × Prints before after (with_alphabet_line alphabet (unused_text t lines []))))

-- a certificate was written that a judge accepts for the table of the file at the path, and what it
-- shows holds of that table, both without what the option leaves out and but for what is excused;
-- no other file changed
abbrev pub ReportsCertificate : World → World → List ℕ → List ℕ → Option (List ℕ) → AlphabetOption → Type 0
ReportsCertificate before after path out accept option =
    (alphabet : AlphabetView) × (spelled_by option ≡ Some alphabet)
    × ((lines : List LineView) × (excusal : Excusal) × IsExcusalOf before path accept lines excusal × IsShownBut accept (left_out_by (table_of lines) alphabet) excusal (table_of lines)
    × ((body : BodyView State) × IsAcceptedUpTo (left_out_by (table_of lines) alphabet) excusal.excused (table_of lines) (spelling (certificate_of body)) (counted (certificate_of body))
    × GivesAlso after.gives out (spelling (certificate_of body)) × OthersStay before.gives after.gives out × IsTableOf after.gives path (table_of lines)
    × Prints before after (lines_with alphabet accept excusal (certified_line (certificate_of body)))))

-- new files were written, and no other file changed; these files define a table whose root is the
-- file at the path, written into the folder
abbrev pub WritesTable : World → World → List ℕ → List ℕ → Type 0
WritesTable before after path dir =
    (files : List NewFile) × AreNew before.gives files × AreWritten files before.gives after.gives
    × IsRead (map new_file_view files) (written_root dir path)

-- this holds of the lines of the table at the path that can act on texts of the characters that a
-- word spells, where it was cut for a folder
abbrev pub HoldsOfActing : FileAnswers → List ℕ → List ℕ → Bool → Bor (List ℕ) → (List ActingView → Type 0) → Type 0
HoldsOfActing gives path dir rewrite word holds =
    (alphabet : AlphabetView) × (spelled_by (alphabets.Only word) ≡ Some alphabet)
    × ((of : CutTable) × IsCut rewrite gives path dir of × ((acting : List ActingView) × AreActing alphabet of acting × holds acting))

-- where characters are given, no line can act, or some line can
abbrev pub NoneActs : Option (Bor (List ℕ)) → FileAnswers → List ℕ → List ℕ → Bool → Type 0
NoneActs None gives path dir rewrite = Unit {0}
NoneActs (Some word) gives path dir rewrite = HoldsOfActing gives path dir rewrite word (λ acting. acting ≡ [])

abbrev pub SomeAct : Option (Bor (List ℕ)) → FileAnswers → List ℕ → List ℕ → Bool → Type 0
SomeAct None gives path dir rewrite = ⊥
SomeAct (Some word) gives path dir rewrite = HoldsOfActing gives path dir rewrite word (λ acting. acting ≢ [])

-- the table at the path was cut, and a line that is left out has an opcode that is none of
-- liblouis'
abbrev pub HasUnknown : FileAnswers → List ℕ → List ℕ → Bool → Type 0
HasUnknown gives path dir rewrite =
    (of : CutTable) × IsCut rewrite gives path dir of × (has_unknown_opcode (map faulty_line_view of.cut.left_out.items) ≡ true)

-- a survey of the table at a path finds that it is suspect: it has a line whose opcode is none of
-- liblouis', or no line that defines a character; where characters are given, its cut has such a
-- line, or a line can act
abbrev pub SurveysSuspect : Option (Bor (List ℕ)) → FileAnswers → List ℕ → Type 0
SurveysSuspect None gives path = IsSuspectAt gives path
SurveysSuspect (Some word) gives path = HasUnknown gives path [] true ⊎ SomeAct (Some word) gives path [] true

-- the text of a survey was written, which finds that the table at some path is suspect
abbrev pub ReportsSuspect : Option (Bor (List ℕ)) → World → World → Type 0
ReportsSuspect only before after = (path : List ℕ) × SurveysSuspect only before.gives path × ((text : List ℕ) × Prints before after (text ++ no_verdict))

-- the table at the path was cut, and written as a table; a line that is left out has an unknown
-- opcode, or a line can act
abbrev pub CutsRefuted : World → World → List ℕ → List ℕ → Bool → Option (Bor (List ℕ)) → Type 0
CutsRefuted before after path dir rewrite only =
    WritesTable before after path dir × (HasUnknown before.gives path dir rewrite ⊎ SomeAct only before.gives path dir rewrite)

-- the table at some path was cut so into some folder
abbrev pub ReportsCut : World → World → Type 0
ReportsCut before after = (path dir : List ℕ) × (rewrite : Bool) × ((only : Option (Bor (List ℕ))) × CutsRefuted before after path dir rewrite only)

-- the slips and twins of the table at some path were written
abbrev pub ReportsSlips : World → World → Type 0
ReportsSlips before after = (path : List ℕ) × HasSlips before.gives path × ((text : List ℕ) × Prints before after text)

-- what it means that the work was done
abbrev pub MeansDone : Question → World → World → Type 0
MeansDone (question.Check path cert accept option) before after = ReportsAcceptance before after path.now (option_copied accept) option
MeansDone (question.Search path out limit accept option) before after =
    ReportsCertificate before after path.now out.now (option_copied accept) option
MeansDone (question.Clashes path limit first key columns option pairs) before after =
    ReportsNoOther before after path.now option pairs
MeansDone (question.Unused path limit option) before after = ReportsNoUnused before after path.now option
MeansDone (question.Cut path dir rewrite only) before after = WritesTable before after path.now dir.now × NoneActs only before.gives path.now dir.now rewrite
MeansDone (question.Survey paths brief only) before after = All (λ path. NoneActs only before.gives path [] true) (map (λ path. path.now) paths.items)
MeansDone asked before after = Unit {0}

-- what it means that something was refuted; a trace, a list of rules and an explanation never say
-- so
abbrev pub MeansRefuted : Question → World → World → Type 0
MeansRefuted (question.Clash path left right options) before after = ReportsClash before after
MeansRefuted (question.Check path cert accept option) before after = ReportsRefusal before after
MeansRefuted (question.Search path out limit accept option) before after = ReportsClash before after
MeansRefuted (question.Clashes path limit first key columns option pairs) before after =
    ReportsOther before after path.now option pairs
MeansRefuted (question.Unused path limit option) before after = ReportsUnused before after
MeansRefuted (question.Survey paths brief only) before after = ReportsSuspect only before after
MeansRefuted (question.Slips path columns) before after = ReportsSlips before after
MeansRefuted (question.Cut path dir rewrite only) before after = CutsRefuted before after path.now dir.now rewrite only
MeansRefuted asked before after = ⊥

-- no file changes, but one at a path that is asked for
abbrev pub KeepsFilesBut : Option (List ℕ) → World → World → Type 0
KeepsFilesBut None before after = KeepsFiles before after
KeepsFilesBut (Some path) before after = OthersStay before.gives after.gives path

-- no file changes, unless a table was searched or cut, or pairs of rules are to be written
abbrev pub KeepsFilesUnlessWritten : Question → World → World → Type 0
KeepsFilesUnlessWritten (question.Search path out limit accept option) before after = Unit {0}
KeepsFilesUnlessWritten (question.Cut path dir rewrite only) before after = Unit {0}
KeepsFilesUnlessWritten (question.Clashes path limit first key columns option pairs) before after = KeepsFilesBut (written_path pairs) before after
KeepsFilesUnlessWritten asked before after = KeepsFiles before after

-- no file changes where something was refuted, but the one that is written with a list of clashes,
-- and the new files of a cut
abbrev pub KeepsFilesRefuted : Question → World → World → Type 0
KeepsFilesRefuted (question.Cut path dir rewrite only) before after = WritesTable before after path.now dir.now
KeepsFilesRefuted (question.Clashes path limit first key columns option pairs) before after = KeepsFilesBut (written_path pairs) before after
KeepsFilesRefuted asked before after = KeepsFiles before after

-- a question was asked: its answer was delivered after what was printed before, and the status
-- means what it says
pub record Asks (asked : Question) (same : MayBeSame) (before after : World) (status : Status) : Type 0 where
  pub delivered : (shown : World) × KeepsFiles before shown × KeepsOutput asked before shown × IsDelivered (Answers asked same before shown) shown after status
  pub files : KeepsFilesUnlessWritten asked before after
  pub done : status ≡ Done → MeansDone asked before after
  pub refuted : status ≡ Refuted → MeansRefuted asked before after × KeepsFilesRefuted asked before after

-- ---- What each task gives

-- the status after a translation: a fault where a character is listed as lacking
abbrev pub stream_status : Result (String Global) RunFault → Status
stream_status (Ok text) = if length (string_bytes text) == 0 then Done else Faulty
stream_status (Err fault) = status_of fault

-- the input was translated by the table of the file at a path, which changes no file
abbrev pub Translates : List ℕ → Form → Bool → Option (List ℕ) → World → World → Status → Type 0
Translates path form lacking input before after status =
    KeepsFiles before after
    × ((outcome : Result (String Global) RunFault) × TranslatesByFile lacking before.gives path form input before.contents after.contents outcome
    × (status ≡ stream_status outcome))

-- a task was done, with the paths, texts, form, option and limit that it has
abbrev pub Performs : Task → MayBeSame → Option (List ℕ) → World → World → Status → Type 0
Performs (task.Translate path form lacking) same input before after status = Translates path.now form lacking input before after status
Performs (task.Ask asked) same input before after status = Asks asked same before after status

-- the answer with this text of help or of the version
abbrev pub IsHelp : List ℕ → Result Answer RunFault → Type 0
IsHelp text (Ok answer) = HasTextAndStatus Done text answer
IsHelp text (Err fault) = ⊥

-- words that ask for no work were answered: with the text of help or of the version; or as a use
-- fault, or as memory ran out, and nothing was written
abbrev pub Replies : Failure NotATask → World → World → Status → Type 0
Replies (failures.Fault (not_a_task.Help text)) before after status = IsDelivered (IsHelp (string_bytes text)) before after status
Replies (failures.Fault (not_a_task.UseFault text)) before after status = KeepsFiles before after × PrintsNothing before after × (status ≡ Faulty)
Replies failures.Memory before after status = KeepsFiles before after × PrintsNothing before after × (status ≡ Undecided)

-- the world before a task, where the files of tables are looked for in some folders
abbrev pub Looked : Type 0
Looked = Vec (String Global) → World

-- what words ask for was done: the task, where the files of tables are looked for in the folders of
-- the words; or words that ask for none were answered
abbrev pub Does : MayBeSame → Option (List ℕ) → Looked → World → World → Status → Result Work (Failure NotATask) → Type 0
Does same input looked before after status (Ok work) = Performs work.task same input (looked work.folders) after status
Does same input looked before after status (Err reply) = Replies reply before after status

-- what a run did: what its words ask for; `asks` says what that may be
abbrev pub Runs : (Result Work (Failure NotATask) → Type 0) → MayBeSame → Option (List ℕ) → Looked → World → World → ℕ → Type 0
Runs asks same input looked before after code =
    (asked : Result Work (Failure NotATask)) × asks asked
    × ((status : Status) × (code ≡ code_of status) × Does same input looked before after status asked)

-- What it means that a run ended with status 1, for some folders in which the files of tables were
-- looked for. One of these was written: the report of a clash, a refusal, a list of clashes, a list
-- of unused rules, the survey of a suspect table, or a list of slips. Or a table was cut, and a
-- line with an unknown opcode was left out.
abbrev pub ReportsOne : Looked → World → Type 0
ReportsOne looked after =
    (folders : Vec (String Global)) × (ReportsClash (looked folders) after ⊎ ReportsRefusal (looked folders) after
    ⊎ ReportsClashes (looked folders) after ⊎ ReportsUnused (looked folders) after
    ⊎ ((only : Option (Bor (List ℕ))) × ReportsSuspect only (looked folders) after) ⊎ ReportsCut (looked folders) after ⊎ ReportsSlips (looked folders) after)

-- what is written to the file at a path: pairs of rules of a table; or the text that the file had,
-- without its stale lines
abbrev pub IsPairsText : FileAnswers → List ℕ → List ℕ → Type 0
IsPairsText old path content =
    (lines : List LineView) × (sections : List Section)
    × ((content ≡ text_of_pairs (table_of lines) lines sections)
    ⊎ ((text : List ℕ) × MayAnswer old path (Holds text) × (content ≡ pruned_text (Some text) (table_of lines) lines sections)))

-- these files were made where nothing was, and no other file changed
abbrev pub AreGained : List NewFile → FileAnswers → FileAnswers → Type 0
AreGained files old new =
    AreNew old files × All (IsGivenBy new) files × ((p : List ℕ) (a : FileAnswer) → IsNoneOf files p → new.may p a ≡ old.may p a)

-- no file changed; or one alone did, which has such a text; or new files were made
abbrev pub MayGainFiles : FileAnswers → FileAnswers → Type 0
MayGainFiles old new =
    (new.may ≡ old.may)
    ⊎ ((path content : List ℕ) × IsPairsText old path content × GivesAlso new path content × ((p : List ℕ) (a : FileAnswer) → p ≢ path → new.may p a ≡ old.may p a))
    ⊎ ((files : List NewFile) × AreGained files old new)

-- 0, 1, 2 or 3
abbrev pub IsStatus : ℕ → Type 0
IsStatus code = code < 4
