-- What a list is answered by, of what is kept of its sections.
use Rattle.std.proofs.Common.{◌≡◌, ◌≢◌, ◌∙◌, ◌++◌, ℕ, Bool, List, [], Option, Result, Ok, Err, IsErrAnd, ap, append-nil, if◌then◌else◌, length, option_map, refl, string_bytes, subst, sym}
use Rattle.std.specs.Io.KnownBytes.{Appends}
use Rattle.std.proofs.lemmas.Result.{err_from_is_err_and}
use Rattle.brl_accepted.specs.Reading.{excused_of, is_excused}
use Rattle.brl_answers.specs.Delivery.{World}
use Rattle.brl_answers.specs.declared.answer.Answer.{Answer}
use Rattle.brl_answers.specs.declared.run_fault.RunFault.{RunFault}
use Rattle.brl_answers.specs.declared.run_fault.RunFault.TheVariants.{Memory, OutputFailed}
use Rattle.brl_clashes.proofs.ByPairs.{left_by_pairs}
use Rattle.brl_clashes.proofs.Showings.{nothing_shown}
use Rattle.brl_clashes.proofs.Verdicts.{all_left_whole}
use Rattle.brl_clashes.specs.Accepted.{AreLeftOf}
use Rattle.brl_clashes.specs.ClashesText.{IsListText, last_lines, verdict_by}
use Rattle.brl_clashes.specs.ListedPairs.{has_pair}
use Rattle.brl_clashes.specs.Sections.{AreSections, are_whole, listed_pairs, outcome_by, outcome_of}
use Rattle.brl_clashes.specs.Showing.{AreFound, Asked, IsEnd, IsText, IsWhole, Shows}
use Rattle.brl_clashes.specs.declared.list_form.ListForm.{ListForm}
use Rattle.brl_clashes.specs.declared.section.Section.{Section}
use Rattle.brl_clashes.specs.declared.tally.Tally.{Tally}
use Rattle.brl_cli.specs.declared.command.PairFiles.{PairFiles}
use Rattle.brl_pairs.specs.declared.excused.Excused.{Excused}
use Rattle.brl_tool.specs.Baselines.{AreFilesWith, excused_by_text, is_written_by, pruned_by, taken_by, text_of_listed, written_path}
use Rattle.brl_tool.specs.Diagnosing.{AnswersTally, IsDiagnosis, IsEndOf, Lists, asked_of_input, status_of_sections}
use Rattle.brl_tool.specs.declared.clashes.ListInput.{ListInput}
use Rattle.brl_without.specs.Alphabet.{AlphabetView, alphabet_view, left_out_by}

-- what is answered after the sections is the diagnosis
module _ (alphabet : AlphabetView) (asked : Asked) (baseline : Option (List ℕ)) (pairs : PairFiles) (tally : Tally) (answer : Answer) (sections left : List Section) (printed : List ℕ) where
  pub diagnosis_of : asked.excused ≡ excused_by_text baseline asked.table asked.lines → asked.left_out ≡ left_out_by asked.table alphabet → IsWhole asked sections left tally → IsText asked sections left printed
      → AnswersTally alphabet asked baseline pairs tally answer → IsDiagnosis alphabet asked.table asked.lines asked.limit asked.form baseline pairs printed answer
  diagnosis_of excused left_out whole shows answers =
      let t = asked.table in
      let lines = asked.lines in
      let is = whole.kept in
      let all : tally.whole ≡ are_whole sections = is.whole ∙ all_left_whole (is_excused asked.excused) sections left whole.beside in
      let outcome : outcome_by tally.whole tally.none ≡ outcome_of left = (λ i. outcome_by (is.whole i) (is.none i)) in
      record {
        found = sections;
        accepted = excused_of (excused_by_text baseline t lines) (listed_pairs sections);
        taken = answers.taken;
        left = left;
        are = subst (λ (lo : List ℕ). AreSections t lo asked.limit sections) left_out whole.are;
        accepts = record { pairs_are = refl; taken_is = answers.taken_is ∙ (λ i. taken_by baseline pairs.prune t lines (is.found_pairs i) (all i)) };
        beside = subst (λ (e : Excused). AreLeftOf (has_pair (excused_of e (listed_pairs sections))) sections left) excused (left_by_pairs asked.excused sections left whole.beside);
        shows = subst (λ (lo : List ℕ). IsListText t lines lo asked.form sections left printed) left_out shows;
        says = answers.says ∙ (λ i. last_lines asked.form alphabet (verdict_by answers.taken (outcome i) (is.counts i) (length (is.left_pairs i))));
        status = answers.status ∙ ap (status_of_sections answers.taken) outcome;
        files = subst (λ (bytes : List ℕ). AreFilesWith (written_path pairs) (is_written_by pairs.prune answers.taken (are_whole left)) bytes answer.files)
            (λ i. if pairs.prune then pruned_by baseline t lines (is.found_pairs i) (all i) else text_of_listed t lines (is.left_pairs i))
            (subst (λ (b : Bool). AreFilesWith (written_path pairs) (is_written_by pairs.prune answers.taken b) (if pairs.prune then pruned_by baseline t lines tally.found tally.whole else text_of_listed t lines tally.left) answer.files) is.whole answers.files);
      }

-- ---- What ends a list early

module _ (limit : ℕ) (form : ListForm) (pairs : PairFiles) (input : ListInput) (before after : World) (asked : Asked) (same : asked ≡ asked_of_input limit form input) where
  -- how it ended
  end_of : (fault : RunFault) → IsEnd fault → (fault ≡ OutputFailed → after.failures ≢ before.failures) → IsEndOf before after fault
  end_of OutputFailed end failed = failed refl
  end_of Memory end failed = tt
  end_of fault end failed = absurd end

  -- the output or memory ended it
  pub list_ended : (fault : RunFault) → Shows IsText asked before.contents after.contents (Err fault) → (fault ≡ OutputFailed → after.failures ≢ before.failures) → Lists limit form pairs before after input (Err fault)
  list_ended fault (end, (found, left, front, rest, are, shows, writes)) failed = (
    end_of fault end failed,
    (found, left, front, rest, subst (λ (a : Asked). AreFound a found left) same are, subst (λ (a : Asked). IsText a found left (front ++ rest)) same shows, writes),
  )

  -- memory ran out before anything was printed
  pub memory_first : Appends before.contents after.contents [] → Lists limit form pairs before after input (Err Memory)
  memory_first writes = list_ended Memory (nothing_shown asked before.contents after.contents writes) (λ e. cc)

  -- memory ran out after all sections
  pub memory_last : (tally : Tally) → Shows IsText asked before.contents after.contents (Ok tally) → Lists limit form pairs before after input (Err Memory)
  memory_last tally (sections, left, text, whole, shows, writes) =
      list_ended Memory (
        tt,
        (sections, left, text, [], record { first = whole.are.first; beside = whole.beside }, subst (IsText asked sections left) (sym (append-nil text)) shows, writes),
      ) (λ e. cc)

  -- so it is of what a step says of memory
  pub memory_before_list : (result : Result Answer RunFault) → IsErrAnd result (λ e. e ≡ Memory) → Appends before.contents after.contents [] → Lists limit form pairs before after input result
  memory_before_list result is writes =
      let p = err_from_is_err_and result is in
      subst (Lists limit form pairs before after input) (sym (p.1 ∙ ap Err p.2)) (memory_first writes)

  pub memory_after_list : (tally : Tally) (result : Result Answer RunFault) → IsErrAnd result (λ e. e ≡ Memory) → Shows IsText asked before.contents after.contents (Ok tally) → Lists limit form pairs before after input result
  memory_after_list tally result is shows =
      let p = err_from_is_err_and result is in
      subst (Lists limit form pairs before after input) (sym (p.1 ∙ ap Err p.2)) (memory_last tally shows)

  -- and of the fault of the list
  pub fault_of_list : (fault : RunFault) (result : Result Answer RunFault) → IsErrAnd result (λ e. e ≡ fault) → Shows IsText asked before.contents after.contents (Err fault) → (fault ≡ OutputFailed → after.failures ≢ before.failures)
      → Lists limit form pairs before after input result
  fault_of_list fault result is shows failed =
      let p = err_from_is_err_and result is in
      subst (Lists limit form pairs before after input) (sym (p.1 ∙ ap Err p.2)) (list_ended fault shows failed)

  -- all sections were printed, and what comes after them is answered
  pub listed : (baseline : Option (List ℕ)) (tally : Tally) (answer : Answer) → baseline ≡ option_map string_bytes input.baseline → input.left_out ≡ left_out_by input.loaded.table (alphabet_view input.alphabet)
      → Shows IsText asked before.contents after.contents (Ok tally) → AnswersTally (alphabet_view input.alphabet) asked baseline pairs tally answer → Lists limit form pairs before after input (Ok answer)
  listed baseline tally answer baseline_is left_out (sections, left, text, whole, shows, writes) answers =
      let alphabet = alphabet_view input.alphabet in
      let own = asked_of_input limit form input in (
        text,
        writes,
        diagnosis_of alphabet own (option_map string_bytes input.baseline) pairs tally answer sections left text refl left_out (subst (λ (a : Asked). IsWhole a sections left tally) same whole) (subst (λ (a : Asked). IsText a sections left text) same shows)
            (subst (λ (b : Option (List ℕ)). AnswersTally alphabet own b pairs tally answer) baseline_is (subst (λ (a : Asked). AnswersTally alphabet a baseline pairs tally answer) same answers)),
      )
