-- A source with one answer for each path: what it gives for a table is one thing.
use Rattle.std.proofs.Common.{◌≡◌, inl, inr, ℕ, Bool, true, false, cond, List, [], ◌∷◌, ◌++◌, refl, ap, sym, ◌∙◌, subst, Option, Some, None, Ok, Err}
use Rattle.std.proofs.lemmas.Slice.Eq.{bytes_eq-Decides}
use Rattle.std.specs.Prelude.{option_map, string_bytes}
use Rattle.std.specs.Str.{bytes_eq}
use Rattle.brl_lines.proofs.FileLemmas.{kept}
use Rattle.brl_lines.proofs.MemoryLemmas.{given-at, never_unread, read_failed_or_not}
use Rattle.brl_lines.proofs.MoreLemmas.{lines_over-fewer, lines_over-more}
use Rattle.brl_lines.specs.Answer.{FileAnswer, IsDeterministic, FileAnswers, Unreadable, MayAnswer}
use Rattle.brl_lines.specs.Lines.{Answers, LocationView, Refusal, answer_at, lines_of, refusal, text_of}
use Rattle.brl_lines.specs.Outcome.{AreGiven, AreLinesOf, IsLoadFault, IsRefusedAs}
use Rattle.brl_lines.specs.Tokens.{LineView}
use Rattle.brl_lines.specs.Views.{load_fault_view, location_view}
use Rattle.brl_lines.specs.declared.fault.LoadFault.{LoadFault}
use Rattle.brl_failure.specs.declared.failure.Failure.{Failure}
use Rattle.brl_failure.specs.declared.failure.Failure.TheVariants.{Fault, Memory}
use Rattle.brl_lines.specs.declared.fault.LoadFaultKind.TheVariants as kinds

module _ (gives : FileAnswers) (one : IsDeterministic gives) where
  -- answers before others of the same source change none of them
  after_others : (answers others : Answers) (path : List ℕ) (answer : FileAnswer) → AreGiven gives answers → MayAnswer gives path answer → answer_at others path ≡ Some answer
      → answer_at (answers ++ others) path ≡ Some answer
  after_others [] others path answer given known h = h
  after_others (entry ∷ answers) others path answer given known h = by_test (bytes_eq path entry.0) refl (after_others answers others path answer given.1 known h)
    where
      by_test : (b : Bool) → bytes_eq path entry.0 ≡ b → answer_at (answers ++ others) path ≡ Some answer → cond b (Some entry.1) (answer_at (answers ++ others) path) ≡ Some answer
      by_test true e later =
          let path_is : entry.0 ≡ path = sym ((bytes_eq-Decides path entry.0).0 e) in
          ap Some (one path entry.1 answer (subst (λ p. MayAnswer gives p entry.1) path_is given.0) known)
      by_test false e later = later

  all_given : (answers others : Answers) → AreGiven gives answers → AreGiven gives others → AreGiven gives (answers ++ others)
  all_given [] others h k = k
  all_given (entry ∷ answers) others h k = (h.0, all_given answers others h.1 k)

  module _ (root : List ℕ) (lines : List LineView) (h : AreLinesOf gives root lines) where
    -- the lines, over these answers and others after them
    together : (others : Answers) → lines_of gives.folders (h.0 ++ others) root ≡ Ok lines
    together others = lines_over-more (answer_at h.0) (answer_at (h.0 ++ others)) (kept h.0 others) gives.folders root (λ path place e. let no = sym h.2 ∙ e in cc) ∙ h.2

    known : (others : Answers) → AreGiven gives others → (path : List ℕ) (answer : FileAnswer) → answer_at others path ≡ Some answer → answer_at (h.0 ++ others) path ≡ Some answer
    known others given path answer e = after_others h.0 others path answer h.1 (given-at gives others path answer given e) e

    pub one_list : (right : List LineView) → AreLinesOf gives root right → lines ≡ right
    one_list right k =
        let more = lines_over-more (answer_at k.0) (answer_at (h.0 ++ k.0)) (known k.0 k.1) gives.folders root (λ path place e. let no = sym k.2 ∙ e in cc) in
        let same = sym (together k.0) ∙ more ∙ k.2 in
        cc

    -- no refusal but that of a file that can't be read
    other_kind : (want : Refusal) → (want.kind ≡ kinds.ReadFailed → ⊥) → IsRefusedAs gives root want → ⊥
    other_kind want other k =
        let more = lines_over-more (answer_at k.0) (answer_at (h.0 ++ k.0)) (known k.0 k.1) gives.folders root (never_unread (lines_of gives.folders k.0 root) want k.2 other) in
        let no = sym (together k.0) ∙ more ∙ k.2 in
        cc

    -- and not that one, where it is one that the source can't read
    unreadable : (path : List ℕ) (place : Option LocationView) → MayAnswer gives path Unreadable → IsRefusedAs gives root (refusal kinds.ReadFailed path place) → ⊥
    unreadable path place failed k =
        lines_over-fewer (answer_at k.0) (answer_at (h.0 ++ k.0)) (known k.0 k.1) gives.folders root lines (together k.0) path place k.2
        (by_answer (answer_at (h.0 ++ k.0) path) refl)
      where
        by_answer : (a : Option FileAnswer) → answer_at (h.0 ++ k.0) path ≡ a → text_of path place a ≡ Err (refusal kinds.ReadFailed path place)
        by_answer None e = refl
        by_answer (Some a) e = ap (λ x. text_of path place (Some x)) (one path a Unreadable (given-at gives (h.0 ++ k.0) path a (all_given h.0 k.0 h.1 k.1) e) failed)

    pub only_memory : (failure : Failure LoadFault) → IsLoadFault gives root failure → failure ≡ Memory
    only_memory Memory k = refl
    only_memory (Fault fault) k =
        let path = string_bytes fault.path in
        let place = option_map location_view fault.place in
        elim (read_failed_or_not fault.kind) [
          | inl failed ↦ absurd (unreadable path place (k.1 failed) (subst (λ kind. IsRefusedAs gives root (refusal kind path place)) failed k.0))
          | inr other ↦ absurd (other_kind (load_fault_view fault) other k.0)
        ]
