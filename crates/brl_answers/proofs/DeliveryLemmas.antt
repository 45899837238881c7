-- What the files are after an answer is delivered.
use Rattle.std.proofs.Common.{◌≡◌, Result, Ok, Err, IsErrAnd, subst, sym}
use Rattle.brl_answers.specs.Delivery.{World, KeepsFiles, PrintsNothing, Writes}
use Rattle.brl_answers.specs.Files.{IsPutInto, OthersStay, path_of}
use Rattle.brl_answers.specs.Making.{ArePutInto, FilesAfter}
use Rattle.brl_answers.specs.declared.answer.Answer.{Answer}
use Rattle.brl_answers.specs.declared.new_files.NewFile.{NewFile}
use Rattle.brl_answers.specs.declared.new_files.NewFiles.{NewFiles}
use Rattle.brl_answers.specs.declared.new_files.NewFiles.TheVariants.{Nothing, InPlace, AllNew}
use Rattle.brl_answers.specs.declared.run_fault.RunFault.{RunFault}
use Rattle.brl_answers.specs.declared.run_fault.RunFault.TheVariants.{OutputFailed, CannotWrite, Memory}
use Rattle.brl_answers.specs.declared.status.Status.{Status}

-- ---- An answer without files changes none

module _ (before after : World) (answer : Answer) where
  pub none_changes : (written : Result Status RunFault) → answer.files ≡ Nothing → Writes answer before after written → KeepsFiles before after
  none_changes (Ok status) none h = subst (FilesAfter before.gives after.gives) none h.0
  none_changes (Err OutputFailed) none h = subst (FilesAfter before.gives after.gives) none h.1
  none_changes (Err fault) none h = absurd (subst (λ (files : NewFiles). ArePutInto files before.gives after.gives (Err fault)) none h.1)

  -- ---- An answer with one file changes no other

  put_alone : (file : NewFile) (fault : RunFault) → IsPutInto file before.gives after.gives (Err fault) → OthersStay before.gives after.gives (path_of file)
  put_alone file (CannotWrite path made) is = is.2
  put_alone file Memory is = is
  put_alone file fault is = absurd is

  pub one_changes : (file : NewFile) (written : Result Status RunFault) → answer.files ≡ InPlace file → Writes answer before after written → OthersStay before.gives after.gives (path_of file)
  one_changes file (Ok status) one h = (subst (FilesAfter before.gives after.gives) one h.0).1
  one_changes file (Err OutputFailed) one h = (subst (FilesAfter before.gives after.gives) one h.1).1
  one_changes file (Err fault) one h = put_alone file fault (subst (λ (files : NewFiles). ArePutInto files before.gives after.gives (Err fault)) one h.1)

  -- ---- An answer whose files can't be written

  -- no fault of these files is that of the output
  not_of_output : (files : NewFiles) → ArePutInto files before.gives after.gives (Err OutputFailed) → ⊥
  not_of_output Nothing put = put
  not_of_output (InPlace file) put = put
  not_of_output (AllNew files) put = put

  not_put : (fault : RunFault) → PrintsNothing before after → ArePutInto answer.files before.gives after.gives (Err fault) → Writes answer before after (Err fault)
  not_put OutputFailed still put = absurd (not_of_output answer.files put)
  not_put fault still put = (still, put)

  -- the same of what came back
  pub stopped_at_files : (fault : RunFault) (written : Result Status RunFault) → IsErrAnd written (λ e. e ≡ fault) → PrintsNothing before after → ArePutInto answer.files before.gives after.gives (Err fault) → Writes answer before after written
  stopped_at_files fault (Ok status) bad still put = absurd bad
  stopped_at_files fault (Err e) same still put = subst (λ (f : RunFault). Writes answer before after (Err f)) (sym same) (not_put fault still put)
