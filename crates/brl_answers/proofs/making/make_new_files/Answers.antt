use Rattle.std.proofs.Common.{◌≡◌, List, Result, Ok, Err, IsErrAnd, arith, refl, subst, sym}
use Rattle.brl_lines.specs.Answer.{FileAnswers}
use Rattle.brl_answers.specs.Making.{AreMade, IsThereAlready}
use Rattle.brl_answers.specs.declared.new_files.NewFile.{NewFile}
use Rattle.brl_answers.specs.declared.run_fault.RunFault.{RunFault}
use Rattle.brl_answers.specs.declared.run_fault.RunFault.TheVariants.{AlreadyThere, Memory}
use Rattle.brl_answers.proofs.MakingLemmas.{named_made}
use Rattle.brl_answers.proofs.making.make_new_files.Goals as goal

module _ (files : List NewFile) (gives : FileAnswers) where
  -- a file is there already, and none was made
  not_new : (fault : RunFault) → IsThereAlready gives files fault → AreMade files gives gives (Err fault)
  not_new (AlreadyThere path) is = (is, refl)
  not_new Memory is = (0, ((λ k d l. absurd (omega arith)), (refl, λ p a none. refl)))
  not_new fault is = absurd is

  -- the same of what came back
  stopped : (fault : RunFault) (result : Result (Unit {0}) RunFault) → IsErrAnd result (λ e. e ≡ fault) → IsThereAlready gives files fault → AreMade files gives gives result
  stopped fault (Ok done) bad is = absurd bad
  stopped fault (Err e) same is = subst (λ (f : RunFault). AreMade files gives gives (Err f)) (sym same) (not_new fault is)

pub returns-in_err-refuse_what_is_there : goal.returns-in_err-refuse_what_is_there
returns-in_err-refuse_what_is_there g c =
    let gives = g.F.Source.gives c.args.files.now in
    let fault = c.in_err-refuse_what_is_there.field-0.0 in
    stopped c.args.new.items gives fault c.from_residual.result c.from_residual.ensures.1 (subst (λ (files : List NewFile). IsThereAlready gives files fault) c.as_slice.ensures.value c.in_err-refuse_what_is_there.ensures.refused)

pub returns-in-Err-Fault : goal.returns-in-Err-Fault
returns-in-Err-Fault g c =
    let gives = g.F.Source.gives in
    named_made c.args.new.items (gives c.args.files.now) (gives c.make_files.new.files) c.in-Err-Fault.place c.cannot_write.result (rw c.as_slice.ensures.value at c.in_ok-refuse_what_is_there.ensures.new) c.cannot_write.ensures
    (rw (c.as_slice-2.ensures.value, c.in-Err-Fault.field-0-is) at c.in-Err-Fault.ensures.stopped).1
