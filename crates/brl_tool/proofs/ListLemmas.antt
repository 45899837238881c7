-- What the status says of a list of clashes.
use Rattle.std.proofs.Common.{◌≡◌, ◌∙◌, ℕ, Bool, ap, true, false, List, [], ◌∷◌, Option, None, Some, Result, Ok, Err, refl, subst, sym}
use Rattle.std.specs.Option.{option_copied}
use Rattle.std.specs.Prelude.{if◌then◌else◌, option_map, string_bytes}
use Rattle.std.specs.List.{list_all}
use Rattle.std.specs.Borrow.{Bor}
use Rattle.brl_lines.specs.Outcome.{AreLinesOfFiles}
use Rattle.brl_search.specs.declared.table_search.Found.TheVariants.{Clashing}
use Rattle.brl_lines.specs.Tokens.{LineView}
use Rattle.brl_tool.proofs.OfFiles.{lines_of}
use Rattle.brl_search.specs.declared.unused.UnusedRules.TheVariants as unused
use Rattle.brl_rules.specs.TableView.{TableView}
use Rattle.brl_answers.proofs.StepLemmas.{then_ok}
use Rattle.brl_clashes.proofs.Verdicts.{none_clash, only_accepted, other_clash}
use Rattle.brl_clashes.specs.Sections.{are_whole, lists_none, outcome_of}
use Rattle.brl_clashes.specs.declared.accepted.Taken.{Taken}
use Rattle.brl_clashes.specs.declared.list_form.ListForm.{ListForm}
use Rattle.brl_clashes.specs.declared.section.Section.{Section}
use Rattle.brl_clashes.specs.declared.verdict.ListOutcome.{ListOutcome}
use Rattle.brl_clashes.specs.declared.verdict.ListOutcome.TheVariants.{Unambiguous, Clashing, Unfinished}
use Rattle.brl_table.specs.Reading.{AreGood, table_of}
use Rattle.brl_tool.specs.Baselines.{AreExcused, excused_by_text, IsBaseline, is_written, leaves_stale, written_path, written_text}
use Rattle.brl_traces.specs.Traces.{ClashesDivergeAtWithout}
use Rattle.brl_tool.specs.Diagnosing.{Diagnoses, IsDiagnosis, IsInput, form_by, status_of_sections}
use Rattle.brl_tool.specs.declared.clashes.ListInput.{ListInput}
use Rattle.brl_cli.specs.declared.command.AlphabetOption.{AlphabetOption}
use Rattle.brl_cli.specs.declared.command.AlphabetOption.TheVariants as alphabets
use Rattle.brl_without.specs.Alphabet.{AlphabetView, alphabet_view, left_out_by}
use Rattle.brl_answers.specs.Delivery.{Delivers, World, Prints, world}
use Rattle.brl_answers.specs.Files.{MayBeSame}
use Rattle.brl_answers.specs.Making.{FilesAfter}
use Rattle.brl_tool.specs.Running.{Asks, ClashAtAccepted, KeepsFilesBut, KeepsFilesRefuted, KeepsFilesUnlessWritten, MeansDone, MeansRefuted, WritesList}
use Rattle.brl_answers.specs.declared.answer.Answer.{Answer}
use Rattle.brl_answers.specs.declared.run_fault.RunFault.{RunFault}
use Rattle.brl_answers.specs.declared.status.Status.{Status}
use Rattle.brl_answers.specs.declared.status.Status.TheVariants.{Done, Faulty, Refuted}
use Rattle.brl_cli.specs.declared.command.PairFiles.{PairFiles}
use Rattle.brl_cli.specs.declared.command.Question.{Question}
use Rattle.brl_cli.specs.declared.command.Question.TheVariants as question
use Rattle.brl_accepted.specs.Reading.{excused_of}
use Rattle.brl_clashes.specs.Sections.{listed_pairs}
use Rattle.brl_stream.proofs.KnownBytes.{Appends-trans}
use Rattle.brl_tool.proofs.WrittenLemmas.{keeps_all_but, keeps_others, list_file, never_done, never_refuted, pairs_alone, whole}

-- a list of clashes has the status of its outcome, beside what a file takes out
done_none : (stale : Bool) → (if stale then Faulty else Done) ≡ Refuted → ⊥
done_none true e = cc
done_none false e = cc

no_pair : (taken : Option Taken) (o : ListOutcome) → status_of_sections taken o ≡ Done → o ≡ Unambiguous
no_pair taken Unambiguous e = refl
no_pair taken Clashing e = absurd cc
no_pair taken Unfinished e = absurd cc

some_pair : (taken : Option Taken) (o : ListOutcome) → status_of_sections taken o ≡ Refuted → o ≡ Clashing
some_pair taken Unambiguous e = absurd (done_none (leaves_stale taken) e)
some_pair taken Clashing e = refl
some_pair taken Unfinished e = absurd cc

-- what has a verdict is whole
is_decided : (is_whole none : Bool) → ((if is_whole then (if none then Unambiguous else Clashing) else Unfinished) ≡ Unfinished → ⊥) → is_whole ≡ true
is_decided true none decided = refl
is_decided false none decided = absurd (decided refl)

-- nothing is excused where no file is read
none_excused : (listed : List (ℕ × ℕ)) → excused_of (record { accepted = []; exchanged = [] }) listed ≡ []
none_excused [] = refl
none_excused (pair ∷ listed) = none_excused listed

module _ (before : World) (failures : ℕ) (contents : Option (List ℕ)) (after : World) (same_file : MayBeSame) where
  -- when the sections are printed
  abbrev shown : World
  shown = world before.gives failures contents

  -- where no file is read, none are accepted
  none_accepted : (baseline : Option (List ℕ)) (prune : Bool) (t : TableView) (lines : List LineView) (found : List Section) (accepted : List (ℕ × ℕ)) (taken : Option Taken) → IsBaseline before.gives None baseline
      → AreExcused baseline prune t lines found accepted taken → accepted ≡ []
  none_accepted baseline prune t lines found accepted taken none accepts =
      accepts.pairs_are ∙ ap (λ (b : Option (List ℕ)). excused_of (excused_by_text b t lines) (listed_pairs found)) none ∙ none_excused (listed_pairs found)

  -- where no other clash is left, no texts clash but at accepted pairs
  at_accepted : (accept baseline : Option (List ℕ)) (prune : Bool) (left_out : List ℕ) (lines : List LineView) (found : List Section) (accepted : List (ℕ × ℕ)) (taken : Option Taken) → IsBaseline before.gives accept baseline
      → AreExcused baseline prune (table_of lines) lines found accepted taken → ClashesDivergeAtWithout left_out accepted (table_of lines) → ClashAtAccepted accept left_out accepted (table_of lines)
  at_accepted None baseline prune left_out lines found accepted taken none accepts only =
      none_clash (table_of lines) left_out
      (subst (λ (pairs : List (ℕ × ℕ)). ClashesDivergeAtWithout left_out pairs (table_of lines)) (none_accepted baseline prune (table_of lines) lines found accepted taken none accepts) only)
  at_accepted (Some path) baseline prune left_out lines found accepted taken read accepts only = only

  -- what was read, as the list has it
  diagnosed : (alphabet : AlphabetView) (lines : List LineView) (limit : ℕ) (form : ListForm) (baseline : Option (List ℕ)) (pairs : PairFiles) (printed : List ℕ) (answer : Answer) (input : ListInput) → IsInput alphabet lines baseline input
      → IsDiagnosis (alphabet_view input.alphabet) input.loaded.table input.loaded.files.lines limit form (option_map string_bytes input.baseline) pairs printed answer → IsDiagnosis alphabet (table_of lines) lines limit form baseline pairs printed answer
  diagnosed alphabet lines limit form baseline pairs printed answer input is d =
      subst (λ (a : AlphabetView). IsDiagnosis a (table_of lines) lines limit form baseline pairs printed answer) is.alphabet_is
      (subst (λ (t : TableView). IsDiagnosis (alphabet_view input.alphabet) t lines limit form baseline pairs printed answer) is.table_is
      (subst (λ (ls : List LineView). IsDiagnosis (alphabet_view input.alphabet) input.loaded.table ls limit form baseline pairs printed answer) is.lines_are
      (subst (λ (b : Option (List ℕ)). IsDiagnosis (alphabet_view input.alphabet) input.loaded.table input.loaded.files.lines limit form b pairs printed answer) is.baseline_is d)))

  -- a list that is whole was written, and its file
  list_written : (path : List ℕ) (alphabet : AlphabetView) (pairs : PairFiles) (baseline : Option (List ℕ)) (paths : List (List ℕ)) (lines : List LineView) (limit : ℕ) (form : ListForm) (printed : List ℕ) (answer : Answer)
      → AreLinesOfFiles before.gives path paths lines → AreGood lines → IsBaseline before.gives (option_copied pairs.accept) baseline → (d : IsDiagnosis alphabet (table_of lines) lines limit form baseline pairs printed answer)
      → (outcome_of d.left ≡ Unfinished → ⊥) → FilesAfter before.gives after.gives answer.files → Prints before shown printed → Prints shown after (string_bytes answer.text) → WritesList before after path alphabet pairs lines d.accepted
  list_written path alphabet pairs baseline paths lines limit form printed answer are passes read d decided files shows prints = record {
    lines_are = lines_of before.gives path paths lines are;
    passes = passes;
    limit = limit;
    form = form;
    baseline = baseline;
    read = read;
    printed = printed;
    answer = answer;
    is = d;
    accepted_are = refl;
    whole = is_decided (are_whole d.left) (list_all (λ s. lists_none s.found) d.left) decided;
    prints = Appends-trans before.contents shown.contents after.contents printed (string_bytes answer.text) shows prints;
    written = list_file before after (written_path pairs) (is_written pairs.prune d.taken d.left) (written_text pairs.prune baseline (table_of lines) lines d.found d.left) answer.files d.files files;
  }

  module _ (path : Bor (List ℕ)) (limit : ℕ) (first : Option ℕ) (key : Option (Bor (List ℕ))) (columns : Bool) (option : AlphabetOption) (pairs : PairFiles) where
    abbrev asked : Question
    asked = question.Clashes path limit first key columns option pairs

    abbrev IsDiagnosed : Result Answer RunFault → Type 0
    IsDiagnosed outcome = Diagnoses option same_file path.now limit (form_by columns first key) pairs before shown outcome

    -- what an answer means that was written whole
    means : (answer : Answer) → IsDiagnosed (Ok answer) → FilesAfter before.gives after.gives answer.files → Prints shown after (string_bytes answer.text)
        → (answer.status ≡ Done → MeansDone asked before after) × (answer.status ≡ Refuted → MeansRefuted asked before after × KeepsFilesRefuted asked before after)
    unfolding list_written
    means answer is files prints =
        let accept = option_copied pairs.accept in
        let (input, reads, (printed, shows, lists)) = then_ok is in
        let (alphabet, spelled, loads) = then_ok reads in
        let (loaded, are, stays) = then_ok loads in
        let (apart, checks) = then_ok stays in
        let (passes, defines) = then_ok checks in
        let (defined, bases) = then_ok defines in
        let (baseline, read, made) = then_ok bases in
        let lines = loaded.lines in
        let t = table_of lines in
        let left_out = left_out_by t alphabet in
        let form = form_by columns first key in
        let d = diagnosed alphabet lines limit form baseline pairs printed answer input made lists in
        let list = list_written path.now alphabet pairs baseline loaded.paths lines limit form printed answer are passes read d in (
          (λ done.
              let none = no_pair d.taken (outcome_of d.left) (sym d.status ∙ done) in
              let written = list (λ e. let u = sym none ∙ e in cc) files shows prints in
              (alphabet, spelled, (lines, d.accepted, written, at_accepted accept baseline pairs.prune left_out lines d.found d.accepted d.taken read d.accepts (only_accepted t left_out limit d.accepted d.found d.left d.are d.beside none)))),
          (λ refuted.
              let some = some_pair d.taken (outcome_of d.left) (sym d.status ∙ refuted) in
              let written = list (λ e. let u = sym some ∙ e in cc) files shows prints in (
                (alphabet, spelled, (lines, d.accepted, written, other_clash t left_out limit d.accepted d.found d.left d.are d.beside some)),
                keeps_others before after (written_path pairs) (is_written pairs.prune d.taken d.left) (written_text pairs.prune baseline t lines d.found d.left) written.written,
              )),
        )

    -- no file changed before the verdict
    since : (write : Option (List ℕ)) → KeepsFilesBut write shown after → KeepsFilesBut write before after
    since None keeps = keeps
    since (Some path) keeps = keeps

    keeps : (outcome : Result Answer RunFault) (status : Status) → IsDiagnosed outcome → Delivers outcome shown after status → KeepsFilesUnlessWritten asked before after
    keeps (Ok answer) status is (written, writes, e) =
        let (input, reads, (printed, shows, d)) = then_ok is in
        since (written_path pairs) (pairs_alone shown after answer (written_path pairs) (is_written pairs.prune d.taken d.left)
        (written_text pairs.prune (option_map string_bytes input.baseline) input.loaded.table input.loaded.files.lines d.found d.left) d.files written writes)
    keeps (Err fault) status is (stay, still, e) = since (written_path pairs) (keeps_all_but shown after (written_path pairs) stay)

    -- the answer to a question for a list was delivered, after its sections
    pub list_asks : (outcome : Result Answer RunFault) (status : Status) → IsDiagnosed outcome → Delivers outcome shown after status → Asks asked same_file before after status
    list_asks outcome status is delivers = record {
      delivered = (shown, refl, tt, (outcome, is, delivers));
      files = keeps outcome status is delivers;
      done = λ same.
          let (answer, ok, done, files, prints) = whole shown after Done never_done outcome status delivers same in
          (means answer (subst IsDiagnosed ok is) files prints).0 done;
      refuted = λ same.
          let (answer, ok, refuted, files, prints) = whole shown after Refuted never_refuted outcome status delivers same in
          (means answer (subst IsDiagnosed ok is) files prints).1 refuted;
    }
