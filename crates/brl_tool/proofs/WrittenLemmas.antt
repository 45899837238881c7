-- What was written with an answer.
use Rattle.std.proofs.Common.{◌≡◌, ◌∙◌, ℕ, Bool, ap, true, false, List, Option, None, Some, Result, Ok, Err, refl, subst, sym}
use Rattle.std.specs.Prelude.{string_bytes}
use Rattle.brl_lines.specs.Answer.{FileAnswers}
use Rattle.brl_search.specs.declared.unused.UnusedRules.TheVariants as unused
use Rattle.brl_answers.proofs.DeliveryLemmas.{none_changes, one_changes}
use Rattle.brl_tool.specs.Baselines.{AreFilesWith}
use Rattle.brl_tool.specs.FileBytes.{IsFileWith}
use Rattle.brl_cli.specs.declared.command.AlphabetOption.TheVariants as alphabets
use Rattle.brl_answers.specs.Delivery.{Delivers, World, KeepsFiles, Prints, Writes}
use Rattle.brl_answers.specs.Files.{GivesAlso, OthersStay}
use Rattle.brl_answers.specs.Making.{FilesAfter}
use Rattle.brl_tool.specs.Running.{KeepsFilesBut, WritesFile}
use Rattle.brl_answers.specs.Status.{status_of}
use Rattle.brl_answers.specs.declared.answer.Answer.{Answer}
use Rattle.brl_answers.specs.declared.new_files.NewFiles.{NewFiles}
use Rattle.brl_answers.specs.declared.new_files.NewFiles.TheVariants.{Nothing, InPlace, AllNew}
use Rattle.brl_answers.specs.declared.run_fault.RunFault.{RunFault}
use Rattle.brl_answers.specs.declared.run_fault.RunFault.TheVariants.{Wide, Memory}
use Rattle.brl_answers.specs.declared.status.Status.{Status}
use Rattle.brl_answers.specs.declared.status.Status.TheVariants.{Done, Refuted}
use Rattle.brl_cli.specs.declared.command.Question.TheVariants as question

-- ---- No fault has the status of work that was done

pub never_done : (fault : RunFault) → status_of fault ≡ Done → ⊥
never_done Memory e = cc
never_done (Wide fault) e = cc
never_done fault e = cc

pub never_refuted : (fault : RunFault) → status_of fault ≡ Refuted → ⊥
never_refuted Memory e = cc
never_refuted (Wide fault) e = cc
never_refuted fault e = cc

module _ (before after : World) where
  -- an answer with a status that no fault has was written whole
  pub whole : (s : Status) → ((fault : RunFault) → status_of fault ≡ s → ⊥) → (outcome : Result Answer RunFault) (status : Status) → Delivers outcome before after status → status ≡ s
      → (answer : Answer) × (outcome ≡ Ok answer) × (answer.status ≡ s) × FilesAfter before.gives after.gives answer.files × Prints before after (string_bytes answer.text)
  whole s never (Ok answer) status (Ok written, (files, prints, is), e) same = (answer, refl, sym is ∙ (sym e ∙ same), files, prints)
  whole s never (Ok answer) status (Err fault, writes, e) same = absurd (never fault (sym e ∙ same))
  whole s never (Err fault) status (stay, still, e) same = absurd (never fault (sym e ∙ same))

  -- ---- A file that is written

  pub file_written : (content out : List ℕ) (files : NewFiles) → IsFileWith out content files → FilesAfter before.gives after.gives files → GivesAlso after.gives out content × OthersStay before.gives after.gives out
  file_written content out Nothing is written = absurd is
  file_written content out (AllNew files) is written = absurd is
  file_written content out (InPlace file) (path, bytes) (gives, others) =
      (subst (λ (p : List ℕ). GivesAlso after.gives p content) path (subst (GivesAlso after.gives (string_bytes file.path)) bytes gives), subst (OthersStay before.gives after.gives) path others)

  -- a file is written, where a path for it is asked for and it is to be
  pub list_file : (out : Option (List ℕ)) (is : Bool) (content : List ℕ) (files : NewFiles) → AreFilesWith out is content files → FilesAfter before.gives after.gives files → WritesFile before after out is content
  list_file None is content files are written = subst (FilesAfter before.gives after.gives) are written
  list_file (Some path) false content files are written = subst (FilesAfter before.gives after.gives) are written
  list_file (Some path) true content files are written = file_written content path files are written

  pub stays_but : (path : List ℕ) → KeepsFiles before after → OthersStay before.gives after.gives path
  stays_but path stay = (ap (λ (gives : FileAnswers). gives.folders) stay, λ p a other. ap (λ (gives : FileAnswers). gives.may p a) stay)

  pub keeps_others : (out : Option (List ℕ)) (is : Bool) (content : List ℕ) → WritesFile before after out is content → KeepsFilesBut out before after
  keeps_others None is content written = written
  keeps_others (Some path) false content written = stays_but path written
  keeps_others (Some path) true content written = written.1

  pub keeps_all_but : (write : Option (List ℕ)) → KeepsFiles before after → KeepsFilesBut write before after
  keeps_all_but None stay = stay
  keeps_all_but (Some path) stay = stays_but path stay

  -- a file with pairs alone changes
  one_alone : (answer : Answer) (path content : List ℕ) (files : NewFiles) → answer.files ≡ files → IsFileWith path content files → (written : Result Status RunFault) → Writes answer before after written
      → OthersStay before.gives after.gives path
  one_alone answer path content Nothing same is written writes = absurd is
  one_alone answer path content (AllNew files) same is written writes = absurd is
  one_alone answer path content (InPlace file) same is written writes = subst (OthersStay before.gives after.gives) is.0 (one_changes before after answer file written same writes)

  pub pairs_alone : (answer : Answer) (write : Option (List ℕ)) (is_whole : Bool) (content : List ℕ) → AreFilesWith write is_whole content answer.files → (written : Result Status RunFault)
      → Writes answer before after written → KeepsFilesBut write before after
  pairs_alone answer None is_whole content are written writes = none_changes before after answer written are writes
  pairs_alone answer (Some path) false content are written writes = keeps_all_but (Some path) (none_changes before after answer written are writes)
  pairs_alone answer (Some path) true content are written writes = one_alone answer path content answer.files refl are written writes
