use Rattle.std.proofs.Common.{◌≡◌, List, ℕ, Result, Ok, Err, IfErr, IfOk, OnOk, subst}
use Rattle.std.proofs.lemmas.Result.{IfErr-weaker}
use Rattle.brl_accept.specs.Excusing.{MayExcuse, closed_up_to}
use Rattle.brl_accept.specs.Judging.{IsAcceptedFor, IsProved, IsRefusedAs, IsRefusedFor}
use Rattle.brl_accept.specs.Kinds.{HasVersion}
use Rattle.brl_closure.specs.declared.check.checker.Accepted.{Accepted}
use Rattle.brl_accept.specs.declared.judge_fault.JudgeFault.{JudgeFault}
use Rattle.brl_cert.specs.Reading.{reading}
use Rattle.brl_failure.specs.Failure.{Gives, IfFault, IsRaised}
use Rattle.brl_failure.specs.Raised.{if_fault-weaker, raised_is}
use Rattle.brl_failure.specs.declared.failure.Failure.{Failure}
use Rattle.brl_states.specs.declared.cert.Cert.{Cert as Certificate}
use Rattle.brl_pairs.specs.declared.excused.Excused.{Excused}
use Rattle.brl_rules.specs.TableView.{TableView}
use Rattle.brl_without.specs.Tables.{AreDefined}
use Rattle.brl_accept.proofs.Judged.{decided, not_closed_up_to, refused_read}
use Rattle.brl_accept.proofs.judge_files.judge_table.Goals as goal

-- what holds of a step holds of its value
told : {A E F : Type 0} (R : E → F → Type 0) (P : Result A (Failure E) → Type 0) (step : Result A (Failure E)) (raised : Result A (Failure F)) (x : A) → IsRaised R step raised → raised ≡ Ok x → P step → P (Ok x)
told R P step raised x is e h = subst P (raised_is R step raised x is e) h

module _ (left_out : List ℕ) (excused : Excused) (t : TableView) (bytes : List ℕ) (defined : AreDefined t left_out) (cert : Certificate) (read : reading bytes ≡ Ok cert) where
  -- what was read of the bytes is accepted, so they are
  accepted_as : (result : Result Accepted (Failure JudgeFault)) → IfOk result (λ accepted. (HasVersion t cert × MayExcuse excused cert) × IsProved (closed_up_to left_out excused) t cert accepted) → IfOk result (IsAcceptedFor (closed_up_to left_out excused) t bytes)
  accepted_as (Ok accepted) h = (defined, (cert, read, h.0, h.1))
  accepted_as (Err failure) h = tt

  -- what was read of the bytes is refused, so they are
  refused_for : (result : Result Accepted (Failure JudgeFault)) → IfErr result (IfFault (IsRefusedAs (closed_up_to left_out excused) t cert)) → IfErr result (IfFault (IsRefusedFor (closed_up_to left_out excused) t bytes))
  refused_for result h =
      IfErr-weaker result _ _ (λ failure k. if_fault-weaker _ _ failure (refused_read (closed_up_to left_out excused) (not_closed_up_to left_out excused) t bytes defined cert read) k) h

pub returns : goal.returns
returns g c =
    let left_out = c.args.scope.left_out.now in
    let excused = c.args.scope.excused.now in
    let bytes = c.args.cert.now in
    let cert = c.in_ok-cert.cert in
    let defined = told _ (λ r. OnOk r (AreDefined c.args.table.now left_out)) c.check_defined-defined.result c.raise.result _ c.raise.ensures c.in_ok-raise.was c.check_defined-defined.ensures.defined in
    let read = told _ (Gives (reading bytes)) c.read_cert.result c.raise-2.result cert c.raise-2.ensures c.in_ok-cert.was c.read_cert.ensures.cert in
    let accepted = accepted_as left_out excused c.args.table.now bytes defined cert read c.judge_read.result c.judge_read.ensures.accepted in
    let refused = refused_for left_out excused c.args.table.now bytes defined cert read c.judge_read.result c.judge_read.ensures.refused in
    record {
      shown = c.judge_read.ensures.shown;
      accepted = accepted;
      refused = refused;
      decides = λ one deserved. decided (closed_up_to left_out excused) (not_closed_up_to left_out excused) c.args.table.now bytes one deserved c.judge_read.result accepted refused;
    }
