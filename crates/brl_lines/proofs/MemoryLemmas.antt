-- Lines over what a source was asked for, and over all its files, where it never fails.
use Rattle.std.proofs.Common.{◌≡◌, ◌⊎◌, inl, inr, ℕ, Bool, true, false, cond, nat_le, List, [], ◌∷◌, length, refl, ap, sym, ◌∙◌, subst, Option, Some, None, Result, Ok, Err, IfErr, IfOk}
use Rattle.std.proofs.lemmas.Bool.{false≢true}
use Rattle.std.proofs.lemmas.Slice.Eq.{bytes_eq-Decides}
use Rattle.std.specs.Prelude.{string_bytes}
use Rattle.std.specs.Str.{bytes_eq}
use Rattle.brl_failure.specs.Failure.{GivesAs}
use Rattle.brl_lines.specs.Answer.{FileAnswer, FileAnswers, Holds, Large, MayAnswer, Missing, Unreadable, answer_of, most_file_bytes, same_answer}
use Rattle.brl_lines.specs.Lines.{Answers, LocationView, Refusal, answer_at, lines_of, lines_over, refusal}
use Rattle.brl_lines.specs.Outcome.{AreGiven, AreLinesOf, IsLoadFault, IsRefusedAs}
use Rattle.brl_lines.specs.Views.{load_fault_view}
use Rattle.brl_lines.specs.Tokens.{LineView}
use Rattle.brl_lines.proofs.FindingLemmas.{same_refusal}
use Rattle.brl_lines.proofs.MoreLemmas.{lines_over-more}
use Rattle.brl_lines.specs.declared.fault.LoadFault.{LoadFault}
use Rattle.brl_failure.specs.declared.failure.Failure.{Failure}
use Rattle.brl_failure.specs.declared.failure.Failure.TheVariants.{Fault, Memory}
use Rattle.brl_lines.specs.declared.fault.LoadFaultKind.{LoadFaultKind}
use Rattle.brl_lines.specs.declared.fault.LoadFaultKind.TheVariants as kinds

-- the test finds equal answers
pub same_answer-is : (answer other : FileAnswer) → same_answer answer other ≡ true → answer ≡ other
same_answer-is (Holds bytes) (Holds others) h = ap Holds ((bytes_eq-Decides bytes others).0 h)
same_answer-is Missing Missing h = refl
same_answer-is Large Large h = refl
same_answer-is Unreadable Unreadable h = refl
same_answer-is answer other h = absurd (false≢true h)

-- files in memory can be read
pub answer_of-readable : (bytes : Option (List ℕ)) → Unreadable ≡ answer_of bytes → ⊥
answer_of-readable None e = absurd cc
answer_of-readable (Some bytes) e = by_test (nat_le (length bytes) most_file_bytes) e
  where
    by_test : (b : Bool) → Unreadable ≡ cond b (Holds bytes) Large → ⊥
    by_test true f = absurd cc
    by_test false f = absurd cc

module _ (gives : FileAnswers) where
  -- an answer in the map was given
  pub given-at : (answers : Answers) (path : List ℕ) (answer : FileAnswer) → AreGiven gives answers → answer_at answers path ≡ Some answer → MayAnswer gives path answer
  given-at [] path answer h e = absurd cc
  given-at (entry ∷ others) path answer h e = by_test (bytes_eq path entry.0) refl (given-at others path answer h.1) e
    where
      by_test : (b : Bool) → bytes_eq path entry.0 ≡ b → (answer_at others path ≡ Some answer → MayAnswer gives path answer) → cond b (Some entry.1) (answer_at others path) ≡ Some answer → MayAnswer gives path answer
      by_test true same later f =
          let path_is : entry.0 ≡ path = sym ((bytes_eq-Decides path entry.0).0 same) in
          let answer_is : entry.1 ≡ answer = cc in
          subst (λ p. MayAnswer gives p answer) path_is (subst (λ a. MayAnswer gives entry.0 a) answer_is h.0)
      by_test false same later f = later f

-- a fault is of a read that failed, or it isn't
pub read_failed_or_not : (kind : LoadFaultKind) → (kind ≡ kinds.ReadFailed) ⊎ (kind ≡ kinds.ReadFailed → ⊥)
read_failed_or_not kinds.ReadFailed = inl refl
read_failed_or_not kind = inr (λ e. cc)

-- where no read failed, the lines aren't refused as a read that failed
pub never_unread : (lines : Result (List LineView) Refusal) (want : Refusal) → lines ≡ Err want → (want.kind ≡ kinds.ReadFailed → ⊥)
    → (path : List ℕ) (place : Option LocationView) → lines ≡ Err (refusal kinds.ReadFailed path place) → ⊥
never_unread lines want h other path place e = other (ap (λ r. r.kind) (same_refusal (sym h ∙ e)))

-- A load of files that can all be read gives what the definition gives for all of them.
module _ (folders : List (List ℕ)) (all : List ℕ → FileAnswer) (readable : (path : List ℕ) → Unreadable ≡ all path → ⊥) (root : List ℕ) where
  abbrev gives : FileAnswers
  gives = record { folders = folders; may = λ path answer. same_answer answer (all path) }

  abbrev full : List ℕ → Option FileAnswer
  full path = Some (all path)

  known : (answers : Answers) → AreGiven gives answers → (path : List ℕ) (answer : FileAnswer) → answer_at answers path ≡ Some answer → full path ≡ Some answer
  known answers given path answer e = ap Some (sym (same_answer-is answer (all path) (given-at gives answers path answer given e)))

  other_kind : (want : Refusal) → (want.kind ≡ kinds.ReadFailed → ⊥) → IsRefusedAs gives root want → lines_over folders full root ≡ Err want
  other_kind want other h = lines_over-more (answer_at h.0) full (known h.0 h.1) folders root (never_unread (lines_of folders h.0 root) want h.2 other) ∙ h.2

  pub told_of_all : (outcome : Result (List LineView) (Failure LoadFault)) → IfOk outcome (AreLinesOf gives root) → IfErr outcome (IsLoadFault gives root)
      → GivesAs (λ lines. lines) load_fault_view (lines_over folders full root) outcome
  told_of_all (Ok lines) h k = lines_over-more (answer_at h.0) full (known h.0 h.1) folders root (λ path place e. let no = sym h.2 ∙ e in cc) ∙ h.2
  told_of_all (Err Memory) h k = tt
  told_of_all (Err (Fault fault)) h k =
      elim (read_failed_or_not fault.kind) [
        | inl failed ↦ absurd (readable (string_bytes fault.path) (same_answer-is Unreadable (all (string_bytes fault.path)) (k.1 failed)))
        | inr other ↦ other_kind (load_fault_view fault) other k.0
      ]
