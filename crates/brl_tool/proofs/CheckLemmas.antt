-- What is answered for the judge's outcome.
use Rattle.std.proofs.Common.{◌≡◌, ◌∙◌, ℕ, ◌<◌, ◌≤◌, List, length, inl, inr, Option, None, Some, Result, Ok, Err, ap, arith, refl, subst, sym}
use Rattle.brl_accept.proofs.Judged.{excused_accepted, not_accepted, not_closed_up_to, same_accepted}
use Rattle.brl_accept.specs.Excusing.{IsAcceptedUpTo, IsRefusedUpTo, IsShown, closed_up_to}
use Rattle.brl_accept.specs.Judging.{IsAcceptedFor, closed_without}
use Rattle.brl_closure.specs.declared.check.checker.Accepted.{Accepted}
use Rattle.brl_accept.specs.declared.judge_fault.JudgeFault.{JudgeFault}
use Rattle.brl_accept.specs.declared.judge_fault.JudgeFault.TheVariants as judge
use Rattle.brl_accepted.specs.declared.reading.Excusal.{Excusal}
use Rattle.brl_failure.specs.Failure.{IfFault}
use Rattle.brl_failure.specs.declared.failure.Failure.{Failure}
use Rattle.brl_failure.specs.declared.failure.Failure.TheVariants as failures
use Rattle.brl_lines.specs.Answer.{FileAnswers, IsDeterministic, Holds, Large, MayAnswer, Missing, Unreadable, most_file_bytes}
use Rattle.brl_lines.specs.Outcome.{CountsFailure}
use Rattle.brl_lines.specs.Tokens.{LineView}
use Rattle.brl_lines.specs.declared.fault.LoadFaultKind.{LoadFaultKind}
use Rattle.brl_lines.specs.declared.fault.LoadFaultKind.TheVariants as kinds
use Rattle.brl_table.specs.Faults.{IsFaultAt}
use Rattle.brl_table.specs.Files.{IsTableOf}
use Rattle.brl_table.specs.Reading.{table_of}
use Rattle.brl_table.specs.declared.no_table.NoTable.{NoTable as NoTableFault}
use Rattle.brl_table.specs.declared.no_table.NoTable.TheVariants as no_table
use Rattle.brl_rules.specs.TableView.{TableView}
use Rattle.brl_answers.specs.Answers.{EndsAs, HasNoTable, HasTextAndStatus, UnlessMemory, load_outcome, with_alphabet_line}
use Rattle.brl_answers.specs.declared.answer.Answer.{Answer}
use Rattle.brl_answers.specs.declared.run_fault.RunFault.{RunFault}
use Rattle.brl_answers.specs.declared.run_fault.RunFault.TheVariants.{BadLeftOut, BadOnly, Load, Table, Wide, Memory, NotDefined}
use Rattle.brl_answers.specs.declared.status.Status.TheVariants.{Done}
use Rattle.brl_tool.proofs.OfFiles.{lines_of}
use Rattle.brl_cli.specs.declared.command.AlphabetOption.{AlphabetOption}
use Rattle.brl_cli.specs.declared.command.AlphabetOption.TheVariants as options
use Rattle.brl_tool.specs.Alphabets.{IsMisspelled, spelled_by}
use Rattle.brl_tool.specs.Excusing.{ByExcusal}
use Rattle.brl_without.proofs.Alphabets.{none_lacks}
use Rattle.brl_tool.specs.FileBytes.{ByBytes, IsFaultOfFile, LacksBytes}
use Rattle.brl_tool.specs.Verdicts.{Checks, IsAcceptance, IsRefusal, Judges, JudgesFile, RendersFailure, accepted_line}
use Rattle.brl_without.specs.Scope.{IsNothing}
use Rattle.brl_without.specs.Alphabet.{AlphabetView, HasAll, IsLacking, left_out_by}
use Rattle.brl_without.specs.Tables.{AreDefined}

-- ---- The judge's outcome

module _ (alphabet : AlphabetView) (accept : Option (List ℕ)) (excusal : Excusal) (t : TableView) (bytes : List ℕ) (defined : AreDefined t (left_out_by t alphabet)) where
  abbrev IsJudged : Result Answer RunFault → Type 0
  IsJudged = Judges alphabet accept t bytes excusal

  -- an answer, unless memory ran out
  unless : (is : Answer → Type 0) (result : Result Answer RunFault) → UnlessMemory is result → ((answer : Answer) → is answer → IsJudged (Ok answer)) → IsJudged result
  unless is (Ok answer) h then = then answer h
  unless is (Err Memory) h then = tt
  unless is (Err fault) h then = absurd h

  pub accepted_told : (accepted : Accepted) → IsShown (left_out_by t alphabet) excusal.excused t → IsAcceptedUpTo (left_out_by t alphabet) excusal.excused t bytes accepted → (result : Result Answer RunFault) → UnlessMemory (IsAcceptance alphabet accept excusal accepted) result → IsJudged result
  accepted_told accepted shown is result says = unless (IsAcceptance alphabet accept excusal accepted) result says (λ answer told. inl (shown, (accepted, is, told)))

  pub refused_told : (failure : Failure JudgeFault) → IfFault (IsRefusedUpTo (left_out_by t alphabet) excusal.excused t bytes) failure → (result : Result Answer RunFault) → RendersFailure failure result → IsJudged result
  refused_told (failures.Fault (judge.NoTable fault)) h result told = absurd h.1.2
  refused_told (failures.Fault (judge.NotDefined fault)) h result told = absurd (let here : AreDefined t (left_out_by t alphabet) = defined in cc h.1)
  refused_told (failures.Fault (judge.Cert fault)) h result told = unless IsRefusal result told (λ answer says. inr (judge.Cert fault, tt, h, says))
  refused_told (failures.Fault judge.OldVersion) h result told = unless IsRefusal result told (λ answer says. inr (judge.OldVersion, tt, h, says))
  refused_told (failures.Fault (judge.Wide fault)) h result told = subst IsJudged (sym told) h
  refused_told (failures.Fault (judge.Refused fault)) h result told = unless IsRefusal result told (λ answer says. inr (judge.Refused fault, tt, h, says))
  refused_told failures.Memory h result told = subst IsJudged (sym told) tt

  -- it counts no failure of a file
  pub judged_count : (before now : ℕ) → now ≡ before → (result : Result Answer RunFault) → IsJudged result → CountsFailure before now (load_outcome result)
  judged_count before now same (Ok answer) h = same
  judged_count before now same (Err (Wide fault)) h = same
  judged_count before now same (Err Memory) h = inl same
  judged_count before now same (Err fault) h = absurd h

-- ---- A certificate that is acceptable, over files that each have one answer

module _ (gives : FileAnswers) (one : IsDeterministic gives) (alphabet : AlphabetView) (path cert bytes : List ℕ) (there : MayAnswer gives cert (Holds bytes)) (short : length bytes ≤ most_file_bytes) where
  -- the file has bytes, and few enough
  same_bytes : (found : List ℕ) → MayAnswer gives cert (Holds found) → found ≡ bytes
  same_bytes found holds = by (one cert (Holds found) (Holds bytes) holds there)
    where
      by : Holds found ≡ Holds bytes → found ≡ bytes
      by e = cc

  lacks : (kind : LoadFaultKind) → LacksBytes (MayAnswer gives cert) kind → ⊥
  lacks kinds.NotFound k = let e = one cert (Holds bytes) Missing there k in cc
  lacks kinds.ReadFailed k = let e = one cert (Holds bytes) Unreadable there k in cc
  lacks kinds.TooLarge k = elim k [
    | inl large ↦ let e = one cert (Holds bytes) Large there large in cc
    | inr (found, holds, long) ↦ let here = subst (λ (b : List ℕ). most_file_bytes < length b) (same_bytes found holds) long in absurd (omega (arith, here, short))
  ]
  lacks kinds.NotUtf8 k = k
  lacks kinds.Cycle k = k
  lacks kinds.TooDeep k = k
  lacks kinds.LineTooLong k = k
  lacks kinds.TooManyIncludes k = k

  has_bytes : (fault : RunFault) → IsFaultOfFile gives cert fault → fault ≡ Memory
  has_bytes (Load found) k = absurd (lacks found.kind k.2)
  has_bytes Memory k = refl
  has_bytes fault k = absurd k

  -- the option spells characters
  spells : (option : AlphabetOption) → spelled_by option ≡ Some alphabet → (fault : RunFault) → IsMisspelled option fault → fault ≡ Memory
  spells (options.Without word) e (BadLeftOut named) bad = let none = bad.0 in cc
  spells (options.Only word) e (BadOnly named) bad = let none = bad.0 in cc
  spells (options.Without word) e Memory bad = refl
  spells (options.Only word) e Memory bad = refl
  spells options.All e Memory bad = refl
  spells option e fault bad = absurd bad

  module _ (t : TableView) (table : IsTableOf gives path t) (one_table : (u : TableView) → IsTableOf gives path u → t ≡ u) (no_fault : (fault : NoTableFault) → IsFaultAt gives path fault → ⊥)
      (all : HasAll t alphabet) (accepted : Accepted) (deserved : IsAcceptedFor (closed_without (left_out_by t alphabet)) t bytes accepted) where
    abbrev IsGood : Result Answer RunFault → Type 0
    IsGood = UnlessMemory (HasTextAndStatus Done (with_alphabet_line alphabet (accepted_line accepted.states accepted.pairs)))

    -- there is a table
    has_table : (fault : RunFault) → HasNoTable gives path fault → fault ≡ Memory
    has_table (Load fault) none = absurd (no_fault (no_table.Load fault) none)
    has_table (Table fault) none = absurd (no_fault (no_table.Table fault) none)
    has_table Memory none = refl
    has_table fault none = absurd none

    -- it has the characters of the alphabet
    is_there : (fault : RunFault) → EndsAs NotDefined (IsLacking t alphabet) fault → fault ≡ Memory
    is_there Memory ends = refl
    is_there fault ends = absurd (let (own, is, same) = ends in none_lacks t alphabet all own is)

    -- a fault that is none but that memory ran out
    ran_out : (result : Result Answer RunFault) (fault : RunFault) → result ≡ Err fault → fault ≡ Memory → IsGood result
    ran_out result fault e same = subst IsGood (sym (e ∙ ap Err same)) tt

    judged_good : (excusal : Excusal) → IsNothing excusal.excused → (result : Result Answer RunFault) → Judges alphabet None t bytes excusal result → IsGood result
    judged_good excusal nothing result h = by result h
      where
        good : IsAcceptedUpTo (left_out_by t alphabet) excusal.excused t bytes accepted
        good = excused_accepted (left_out_by t alphabet) excusal.excused nothing t bytes accepted deserved

        never : (fault : JudgeFault) → IsRefusedUpTo (left_out_by t alphabet) excusal.excused t bytes fault → ⊥
        never fault refused = not_accepted (closed_up_to (left_out_by t alphabet) excusal.excused) (not_closed_up_to (left_out_by t alphabet) excusal.excused) t bytes fault refused accepted good

        by : (r : Result Answer RunFault) → Judges alphabet None t bytes excusal r → IsGood r
        by (Ok answer) judged = elim judged [
          | inl (shown, (other, is, says)) ↦
              subst (λ (a : Accepted). HasTextAndStatus Done (with_alphabet_line alphabet (accepted_line a.states a.pairs)) answer)
              (same_accepted (closed_up_to (left_out_by t alphabet) excusal.excused) (not_closed_up_to (left_out_by t alphabet) excusal.excused) t bytes other accepted is good) says
          | inr (fault, of, refused, says) ↦ absurd (never fault refused)
        ]
        by (Err (Wide fault)) judged = absurd (never (judge.Wide fault) judged)
        by (Err Memory) judged = tt
        by (Err fault) judged = absurd judged

    by_excusal : (lines : List LineView) (result : Result Answer RunFault) → ByExcusal alphabet gives None t lines (Judges alphabet None t bytes) result → IsGood result
    by_excusal lines result is = elim is [
      | inl (defined, then) ↦ (elim then [
        | inl (excusal, nothing, judged) ↦ judged_good excusal nothing result judged
        | inr (fault, e, (path, none, why)) ↦ absurd cc
      ])
      | inr (fault, e, ends) ↦ ran_out result fault e (is_there fault ends)
    ]

    by_lines : (result : Result Answer RunFault) → JudgesFile alphabet gives path None bytes result → IsGood result
    by_lines result is = elim is [
      | inl (lines, (paths, are, passes), then) ↦ by_excusal lines result
          (subst (λ (u : TableView). ByExcusal alphabet gives None u lines (Judges alphabet None u bytes) result) (sym (one_table (table_of lines) (lines, lines_of gives path paths lines are, passes, refl))) then)
      | inr (fault, e, none) ↦ ran_out result fault e (has_table fault none)
    ]

    -- it is accepted, unless memory runs out
    pub accepts_good : (option : AlphabetOption) → spelled_by option ≡ Some alphabet → (result : Result Answer RunFault) → Checks gives path cert None option result → IsGood result
    accepts_good option spelled result is = elim is [
      | inl (other, spells_too, then) ↦ by_bytes (subst (λ (a : AlphabetView). ByBytes gives cert (JudgesFile a gives path None) result) (one_only other (spelled_by option) spells_too spelled) then)
      | inr (fault, e, bad) ↦ ran_out result fault e (spells option spelled fault bad)
    ]
      where
        one_only : (other : AlphabetView) (r : Option AlphabetView) → r ≡ Some other → r ≡ Some alphabet → other ≡ alphabet
        one_only other r e f = let g = sym e ∙ f in cc

        by_bytes : ByBytes gives cert (JudgesFile alphabet gives path None) result → IsGood result
        by_bytes step = elim step [
          | inl (found, holds, then) ↦ by_lines result (subst (λ (b : List ℕ). JudgesFile alphabet gives path None b result) (same_bytes found holds) then)
          | inr (fault, e, none) ↦ ran_out result fault e (has_bytes fault none)
        ]
