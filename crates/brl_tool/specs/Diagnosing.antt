-- What `brl clashes` answers. The project's own choice.
use Rattle.std.specs.Prelude.{ℕ, ◌≡◌, ◌≢◌, ◌++◌, Bool, true, false, if◌then◌else◌, List, Option, Some, None, length, option_map, Result, Ok, Err, string_bytes}
use Rattle.std.specs.Borrow.{Bor}
use Rattle.std.specs.Option.{option_copied, unwrap_or}
use Rattle.brl_answers.specs.Answers.{Provided, Then}
use Rattle.brl_answers.specs.Delivery.{World, Prints, PrintsNothing}
use Rattle.brl_answers.specs.Files.{MayBeSame}
use Rattle.brl_answers.specs.declared.answer.Answer.{Answer}
use Rattle.brl_answers.specs.declared.run_fault.RunFault.{RunFault}
use Rattle.brl_answers.specs.declared.run_fault.RunFault.TheVariants.{Memory, OutputFailed}
use Rattle.brl_answers.specs.declared.status.Status.{Status}
use Rattle.brl_answers.specs.declared.status.Status.TheVariants.{Done, Faulty, Refuted, Undecided}
use Rattle.brl_clashes.specs.Accepted.{AreLeftOf}
use Rattle.brl_clashes.specs.ClashesText.{IsListText, last_lines, verdict_by, verdict_text}
use Rattle.brl_clashes.specs.ListedPairs.{has_pair}
use Rattle.brl_clashes.specs.Sections.{AreSections, outcome_by, outcome_of}
use Rattle.brl_clashes.specs.Showing.{AreFound, Asked, IsText}
use Rattle.brl_clashes.specs.declared.accepted.Taken.{Taken}
use Rattle.brl_clashes.specs.declared.list_form.ListForm.{ListForm}
use Rattle.brl_clashes.specs.declared.list_form.ListForm.TheVariants.{Screen, Pairs, Columns}
use Rattle.brl_clashes.specs.declared.section.Section.{Section}
use Rattle.brl_clashes.specs.declared.tally.Tally.{Tally}
use Rattle.brl_clashes.specs.declared.verdict.ListOutcome.{ListOutcome}
use Rattle.brl_clashes.specs.declared.verdict.ListOutcome.TheVariants.{Unambiguous, Clashing, Unfinished}
use Rattle.brl_cli.specs.declared.command.AlphabetOption.{AlphabetOption}
use Rattle.brl_cli.specs.declared.command.PairFiles.{PairFiles}
use Rattle.brl_lines.specs.Answer.{FileAnswers}
use Rattle.brl_lines.specs.Tokens.{LineView}
use Rattle.brl_rules.specs.TableView.{TableView}
use Rattle.brl_table.specs.Reading.{table_of}
use Rattle.brl_tool.specs.Alphabets.{ByAlphabet, IfAllThere}
use Rattle.brl_tool.specs.Baselines.{AreExcused, AreFilesWith, IsApart, IsBaseline, IsFaultOfText, IsOverwritingRead, excused_by_text, is_written, is_written_by, leaves_stale, only_read, pruned_by, taken_by, text_of_listed, written_path, written_text}
use Rattle.brl_tool.specs.ByLines.{ByFiles, IfPassing}
use Rattle.brl_tool.specs.declared.clashes.ListInput.{ListInput}
use Rattle.brl_without.specs.Alphabet.{AlphabetView, alphabet_view, left_out_by}

-- the form in which pairs of rules are listed: as columns where these are asked for; else by their
-- kinds, unless a number of them or the key of one kind is given
abbrev pub form_by : Bool → Option ℕ → Option (Bor (List ℕ)) → ListForm
form_by true first key = Columns key
form_by false None None = Screen
form_by false first key = Pairs (unwrap_or first 0) key

-- the status for an outcome of sections, beside what a file takes out of them: where no pair is
-- left, and stale lines stay in the file, that is a fault
abbrev pub status_of_sections : Option Taken → ListOutcome → Status
status_of_sections taken Unambiguous = if leaves_stale taken then Faulty else Done
status_of_sections taken Clashing = Refuted
status_of_sections taken Unfinished = Undecided

-- What was printed and the answer, with what is left of the sections of a table of these lines
-- beside the pairs that the text of a file accepts. The sections are what is found with a limit for
-- texts made of the characters of an alphabet, and are shown in a form; the verdict comes after
-- them. The pairs of rules that are left go to a file, where one is asked for and the list is
-- whole; or stale lines are taken out of that of the accepted pairs.
pub record IsDiagnosis (alphabet : AlphabetView) (t : TableView) (lines : List LineView) (limit : ℕ) (form : ListForm) (baseline : Option (List ℕ)) (pairs : PairFiles) (printed : List ℕ) (answer : Answer) : Type 0 where
  pub found : List Section
  pub accepted : List (ℕ × ℕ)
  pub taken : Option Taken
  pub left : List Section
  pub are : AreSections t (left_out_by t alphabet) limit found
  pub accepts : AreExcused baseline pairs.prune t lines found accepted taken
  pub beside : AreLeftOf (has_pair accepted) found left
  pub shows : IsListText t lines (left_out_by t alphabet) form found left printed
  pub says : string_bytes answer.text ≡ last_lines form alphabet (verdict_text taken left)
  pub status : answer.status ≡ status_of_sections taken (outcome_of left)
  pub files : AreFilesWith (written_path pairs) (is_written pairs.prune taken left) (written_text pairs.prune baseline t lines found left) answer.files

-- ---- What is read before the search

-- what is answered by the text of the file of accepted pairs, where one is asked for, or why it has
-- none
abbrev pub ByBaseline : {A : Type 0} → FileAnswers → Option (List ℕ) → (Option (List ℕ) → Result A RunFault → Type 0) → Result A RunFault → Type 0
ByBaseline gives accept answers outcome =
    Then (IsBaseline gives accept) (λ fault. (path : List ℕ) × (accept ≡ Some path) × IsFaultOfText gives path fault) answers outcome

-- the input of a list: the alphabet of its texts, the lines of a table without faults, and the text
-- of the file of accepted pairs
pub record IsInput (alphabet : AlphabetView) (lines : List LineView) (baseline : Option (List ℕ)) (input : ListInput) : Type 0 where
  pub alphabet_is : alphabet_view input.alphabet ≡ alphabet
  pub lines_are : input.loaded.files.lines ≡ lines
  pub table_is : input.loaded.table ≡ table_of lines
  pub left_out_is : input.left_out ≡ left_out_by (table_of lines) alphabet
  pub baseline_is : option_map string_bytes input.baseline ≡ baseline

abbrev pub GivesInput : AlphabetView → List LineView → Option (List ℕ) → Result ListInput RunFault → Type 0
GivesInput alphabet lines baseline (Ok input) = IsInput alphabet lines baseline input
GivesInput alphabet lines baseline (Err fault) = ⊥

-- Either the input of a list was read: the table of the file at a path, with the alphabet that an
-- option gives. The file that is written is then none of those that are only read. Or the outcome
-- is the first fault. `same` says which paths may name one file.
abbrev pub ReadsInput : AlphabetOption → FileAnswers → MayBeSame → List ℕ → PairFiles → Result ListInput RunFault → Type 0
ReadsInput option gives same path pairs outcome =
    ByAlphabet option (λ alphabet. ByFiles gives path (λ read. let paths = only_read read.paths pairs in
    Provided (IsApart (written_path pairs) paths) (IsOverwritingRead same paths (written_path pairs))
    (IfPassing read.lines (IfAllThere (table_of read.lines) alphabet
    (ByBaseline gives (option_copied pairs.accept) (GivesInput alphabet read.lines)))))) outcome

-- ---- The list

-- which clashes are listed of what was read
abbrev pub asked_of_input : ℕ → ListForm → ListInput → Asked
asked_of_input limit form input = record {
  table = input.loaded.table;
  lines = input.loaded.files.lines;
  left_out = input.left_out;
  limit = limit;
  form = form;
  excused = excused_by_text (option_map string_bytes input.baseline) input.loaded.table input.loaded.files.lines;
}

-- the answer after the sections of a list, by the tally of these and the text of the file of
-- accepted pairs: the verdict, the status, and the file that is written
pub record AnswersTally (alphabet : AlphabetView) (asked : Asked) (baseline : Option (List ℕ)) (pairs : PairFiles) (tally : Tally) (answer : Answer) : Type 0 where
  pub taken : Option Taken
  pub taken_is : taken ≡ taken_by baseline pairs.prune asked.table asked.lines tally.found tally.whole
  pub says : string_bytes answer.text ≡ last_lines asked.form alphabet (verdict_by taken (outcome_by tally.whole tally.none) tally.counts (length tally.left))
  pub status : answer.status ≡ status_of_sections taken (outcome_by tally.whole tally.none)
  pub files : AreFilesWith (written_path pairs) (is_written_by pairs.prune taken tally.whole)
      (if pairs.prune then pruned_by baseline asked.table asked.lines tally.found tally.whole else text_of_listed asked.table asked.lines tally.left) answer.files

-- the output failed, or memory ran out
abbrev pub IsEndOf : World → World → RunFault → Type 0
IsEndOf before after OutputFailed = after.failures ≢ before.failures
IsEndOf before after Memory = Unit {0}
IsEndOf before after fault = ⊥

-- The clashes of what was read were listed: sections were printed, and the verdict is answered; or
-- the output or memory ended that, and some first bytes of the text of some first sections were
-- printed.
abbrev pub Lists : ℕ → ListForm → PairFiles → World → World → ListInput → Result Answer RunFault → Type 0
Lists limit form pairs before after input (Ok answer) =
    (printed : List ℕ) × Prints before after printed
    × IsDiagnosis (alphabet_view input.alphabet) input.loaded.table input.loaded.files.lines limit form (option_map string_bytes input.baseline) pairs printed answer
Lists limit form pairs before after input (Err fault) =
    IsEndOf before after fault
    × ((found left : List Section) × (front rest : List ℕ) × AreFound (asked_of_input limit form input) found left × IsText (asked_of_input limit form input) found left (front ++ rest)
    × Prints before after front)

-- the clashes of the table of the file at a path were listed; or a fault came before, and nothing
-- was printed
abbrev pub Diagnoses : AlphabetOption → MayBeSame → List ℕ → ℕ → ListForm → PairFiles → World → World → Result Answer RunFault → Type 0
Diagnoses option same path limit form pairs before after outcome =
    Then (λ input. ReadsInput option before.gives same path pairs (Ok input)) (λ fault. ReadsInput option before.gives same path pairs (Err fault) × PrintsNothing before after)
    (Lists limit form pairs before after) outcome
