-- What a run that ends with status 1 did.
use Rattle.std.proofs.Common.{◌≡◌, ◌∙◌, ◌⊎◌, ℕ, Bool, true, false, if◌then◌else◌, List, ap, arith, length, inl, inr, Option, None, Some, Result, Ok, Err, refl, subst, sym}
use Rattle.std.specs.Borrow.{Bor}
use Rattle.std.specs.Global.{Global}
use Rattle.std.specs.Option.{option_copied}
use Rattle.std.specs.Prelude.{◌==◌, String, string_bytes}
use Rattle.brl_answers.specs.Delivery.{World}
use Rattle.brl_answers.specs.Files.{MayBeSame}
use Rattle.brl_answers.specs.Status.{code_of}
use Rattle.brl_answers.specs.declared.run_fault.RunFault.{RunFault}
use Rattle.brl_answers.specs.declared.status.Status.{Status}
use Rattle.brl_answers.specs.declared.status.Status.TheVariants.{Done, Faulty, Refuted, Undecided}
use Rattle.brl_cli.specs.declared.command.Question.{Question}
use Rattle.brl_cli.specs.declared.command.Question.TheVariants as question
use Rattle.brl_cli.specs.declared.command.Task.{Task}
use Rattle.brl_cli.specs.declared.command.Task.TheVariants as task
use Rattle.brl_tool.proofs.StatusLemmas.{unrefuted}
use Rattle.brl_tool.proofs.WrittenLemmas.{never_refuted}
use Rattle.brl_clashes.specs.declared.section.Section.{Section}
use Rattle.brl_cli.specs.declared.command.PairFiles.{PairFiles}
use Rattle.brl_lines.specs.Answer.{FileAnswers, Holds, MayAnswer}
use Rattle.brl_lines.specs.Tokens.{LineView}
use Rattle.brl_table.specs.Reading.{table_of}
use Rattle.brl_tool.specs.Baselines.{IsBaseline, is_written, pruned_text, written_path, written_text}
use Rattle.brl_tool.specs.Running.{IsPairsText, KeepsFilesRefuted, MayGainFiles, MeansRefuted, Performs, ReportsClash, ReportsClashes, ReportsRefusal, ReportsSlips, ReportsSuspect, ReportsCut, ReportsUnused, WritesFile, stream_status}

-- files that give the same may answer the same
same_may : {before after : FileAnswers} → after ≡ before → after.may ≡ before.may
same_may same = ap (λ (gives : FileAnswers). gives.may) same

-- the status with this number
refuted_by : (status : Status) → code_of status ≡ 1 → status ≡ Refuted
refuted_by Done e = absurd (omega (arith, e))
refuted_by Refuted e = refl
refuted_by Faulty e = absurd (omega (arith, e))
refuted_by Undecided e = absurd (omega (arith, e))

module _ (before after : World) (same_file : MayBeSame) (input : Option (List ℕ)) where
  -- a translation doesn't end so
  not_translated : (outcome : Result (String Global) RunFault) → stream_status outcome ≡ Refuted → ⊥
  not_translated (Ok text) e = unrefuted (length (string_bytes text) == 0) e
  not_translated (Err fault) e = never_refuted fault e

  -- one of the reports of status 1 was written
  abbrev pub IsReported : Type 0
  IsReported =
      ReportsClash before after ⊎ ReportsRefusal before after ⊎ ReportsClashes before after ⊎ ReportsUnused before after
      ⊎ ((only : Option (Bor (List ℕ))) × ReportsSuspect only before after)
      ⊎ ReportsCut before after ⊎ ReportsSlips before after

  -- which report was written
  report_of : (asked : Question) → MeansRefuted asked before after → IsReported
  report_of (question.Clash path left right options) means = inl means
  report_of (question.Check path cert accept option) means = inr (inl means)
  report_of (question.Search path out limit accept option) means = inl means
  report_of (question.Clashes path limit first key columns option pairs) means = inr (inr (inl (path.now, option, pairs, means)))
  report_of (question.Unused path limit option) means = inr (inr (inr (inl means)))
  report_of (question.Survey paths brief only) means = inr (inr (inr (inr (inl (only, means)))))
  report_of (question.Cut path dir rewrite only) means = inr (inr (inr (inr (inr (inl (path.now, dir.now, rewrite, (only, means)))))))
  report_of (question.Slips path columns) means = inr (inr (inr (inr (inr (inr means)))))
  report_of asked means = absurd means

  -- what is written is the text of pairs of rules, or of the file that is read without some lines
  content_of : (prune : Bool) (accept out baseline : Option (List ℕ)) (path : List ℕ) (lines : List LineView) (found left : List Section) → (prune ≡ true → out ≡ accept) → IsBaseline before.gives accept baseline
      → out ≡ Some path → IsPairsText before.gives path (written_text prune baseline (table_of lines) lines found left)
  content_of false accept out baseline path lines found left of read is = (lines, left, inl refl)
  content_of true None out baseline path lines found left of read is = (let e = sym (of refl) ∙ is in cc)
  content_of true (Some file) out baseline path lines found left of (text, some, holds) is =
      let same : file ≡ path = (let e = sym (of refl) ∙ is in cc) in
      (lines, found, inr (text, subst (λ (p : List ℕ). MayAnswer before.gives p (Holds text)) same holds, ap (λ (b : Option (List ℕ)). pruned_text b (table_of lines) lines found) some))

  -- which file changed: none, or the one that is written with a list, or new ones of a cut
  gained : (out : Option (List ℕ)) (is : Bool) (content : List ℕ) → ((path : List ℕ) → out ≡ Some path → IsPairsText before.gives path content) → WritesFile before after out is content
      → MayGainFiles before.gives after.gives
  gained None is content of stay = inl (same_may stay)
  gained (Some path) false content of stay = inl (same_may stay)
  gained (Some path) true content of (gives, others) = inr (inl (path, content, of path refl, gives, others.1))

  pruned_path : (pairs : PairFiles) → pairs.prune ≡ true → written_path pairs ≡ option_copied pairs.accept
  pruned_path pairs is = ap (λ (b : Bool). if b then option_copied pairs.accept else option_copied pairs.write) is

  gains : (asked : Question) → MeansRefuted asked before after → KeepsFilesRefuted asked before after → MayGainFiles before.gives after.gives
  gains (question.Clashes path limit first key columns option pairs) (alphabet, spelled, (lines, accepted, list, other)) keeps =
      gained (written_path pairs) (is_written pairs.prune list.is.taken list.is.left) (written_text pairs.prune list.baseline (table_of lines) lines list.is.found list.is.left)
      (λ path is. content_of pairs.prune (option_copied pairs.accept) (written_path pairs) list.baseline path lines list.is.found list.is.left (pruned_path pairs) list.read is) list.written
  gains (question.Clash path left right options) means keeps = inl (same_may keeps)
  gains (question.Check path cert accept option) means keeps = inl (same_may keeps)
  gains (question.Search path out limit accept option) means keeps = inl (same_may keeps)
  gains (question.Unused path limit option) means keeps = inl (same_may keeps)
  gains (question.Survey paths brief only) means keeps = inl (same_may keeps)
  gains (question.Slips path columns) means keeps = inl (same_may keeps)
  gains (question.Cut path dir rewrite only) means (files, new, written, read) = inr (inr (files, (new, written.0, written.1.1)))
  gains asked means keeps = absurd means

  -- it wrote a report, and changed no other file
  pub performed_one : (asked : Task) (status : Status) → Performs asked same_file input before after status → code_of status ≡ 1
      → IsReported × MayGainFiles before.gives after.gives
  performed_one (task.Translate path form lacking) status is one = absurd (not_translated is.1.0 (sym is.1.2 ∙ refuted_by status one))
  performed_one (task.Ask asked) status is one = let (means, keeps) = is.refuted (refuted_by status one) in (report_of asked means, gains asked means keeps)

-- the same since before the folders were set
pub gained_since : (first before after : FileAnswers) → before.may ≡ first.may → MayGainFiles before after → MayGainFiles first after
gained_since first before after kept gains = subst (λ may. MayGainFiles (record { folders = first.folders; may = may }) after) kept gains
