use Rattle.std.proofs.Common.{◌≡◌, ◌∙◌, List, ℕ, Result, Ok, Err, IfErr, IfOk, OnOk, ap, subst, sym}
use Rattle.brl_accept.specs.Excusing.{IsShown, MayExcuse, closed_up_to}
use Rattle.brl_accept.specs.Judging.{IsProved, IsRefusedAs}
use Rattle.brl_accept.specs.Kinds.{HasVersion}
use Rattle.brl_accept.specs.declared.judge_fault.JudgeFault.{JudgeFault}
use Rattle.brl_closure.specs.declared.check.checker.Accepted.{Accepted}
use Rattle.brl_dues.specs.Steps.{dues_machine}
use Rattle.brl_failure.specs.Failure.{IfFault}
use Rattle.brl_failure.specs.declared.failure.Failure.{Failure}
use Rattle.brl_pairs.specs.Exchanges.{TextsDifferByExchangesBut}
use Rattle.brl_pairs.specs.declared.excused.Excused.{Excused}
use Rattle.brl_rules.specs.TableView.{TableView}
use Rattle.brl_states.specs.declared.cert.Cert.{Cert as Certificate}
use Rattle.brl_states.specs.declared.cert.Cert.TheVariants.{Dues, Word}
use Rattle.brl_traces.specs.Exchanges.{TextsAgreeBut}
use Rattle.brl_without.specs.Scope.{IsNothing}
use Rattle.brl_without.specs.Tables.{IsUnambiguousWithout}
use Rattle.brl_without.specs.Without.{IsUnambiguousFor, without}
use Rattle.brl_accept.proofs.Judged.{judged}
use Rattle.brl_accept.proofs.judge_files.judge_read.Goals as goal

module _ (left_out : List ℕ) (excused : Excused) (t : TableView) where
  -- a certificate of a version for the table, that is proved
  with_version : (read cert : Certificate) (result : Result Accepted (Failure JudgeFault)) → read ≡ cert → HasVersion t cert × MayExcuse excused cert → IfOk result (IsProved (closed_up_to left_out excused) t read)
      → IfOk result (λ accepted. (HasVersion t cert × MayExcuse excused cert) × IsProved (closed_up_to left_out excused) t cert accepted)
  with_version read cert (Ok accepted) same version h = (version, subst (λ (c : Certificate). IsProved (closed_up_to left_out excused) t c accepted) same h)
  with_version read cert (Err failure) same version h = tt

  -- what is shown of the dues machine is shown of the table
  shown_of_dues : (u : TableView) → u ≡ t → ((exchanged rules : List (ℕ × ℕ)) → TextsDifferByExchangesBut exchanged rules (without left_out (dues_machine t)) → TextsAgreeBut left_out exchanged rules t) → (result : Result Accepted (Failure JudgeFault))
      → OnOk result (TextsDifferByExchangesBut excused.exchanged excused.accepted (without left_out (dues_machine u))) → OnOk result (IsNothing excused → IsUnambiguousFor left_out (dues_machine u)) → OnOk result (IsShown left_out excused t)
  shown_of_dues u same agree (Ok accepted) texts single = (
    agree excused.exchanged excused.accepted (subst (λ (v : TableView). TextsDifferByExchangesBut excused.exchanged excused.accepted (without left_out (dues_machine v))) same texts),
    λ nothing. subst (IsUnambiguousWithout left_out) same (single nothing),
  )
  shown_of_dues u same agree (Err failure) texts single = tt

pub returns-in-Dues-clause-shown : goal.returns-in-Dues-clause-shown
returns-in-Dues-clause-shown g c =
    let told = c.judge_body.ensures in
    shown_of_dues c.args.scope.left_out.now c.args.scope.excused.now c.args.table.now c.new-dues.result c.new-dues.ensures.table (c.dues_exchange_law.ensures c.args.scope.left_out.now) c.judge_body.result told.texts told.unambiguous

pub returns-in-Dues-clause-accepted : goal.returns-in-Dues-clause-accepted
returns-in-Dues-clause-accepted g c =
    let body = c.body-in-Dues.result.now in
    let told = c.judge_body.ensures in
    with_version c.args.scope.left_out.now c.args.scope.excused.now c.args.table.now (Dues body) c.args.cert.now c.judge_body.result (ap Dues c.body-in-Dues.ensures.body ∙ sym c.in-Dues.is) (c.has_version.ensures.0 c.if-not-has_version.false)
    (judged c.args.scope.left_out.now c.args.scope.excused.now c.args.table.now c.new-dues.result (Dues body) c.new-dues.ensures.table (subst (λ (cert : Certificate). HasVersion c.args.table.now cert × MayExcuse c.args.scope.excused.now cert) (sym (ap Dues c.body-in-Dues.ensures.body ∙ sym c.in-Dues.is)) (c.has_version.ensures.0 c.if-not-has_version.false)) tt c.judge_body.result told.accepted told.refused).0

pub returns-in-Word-clause-shown : goal.returns-in-Word-clause-shown
returns-in-Word-clause-shown g c =
    let told = c.judge_body-in-Word.ensures in
    shown_of_dues c.args.scope.left_out.now c.args.scope.excused.now c.args.table.now c.new-dues.result c.new-dues.ensures.table (c.dues_exchange_law.ensures c.args.scope.left_out.now) c.judge_body-in-Word.result told.texts told.unambiguous

pub returns-in-Word-clause-accepted : goal.returns-in-Word-clause-accepted
returns-in-Word-clause-accepted g c =
    let body = c.in-Word.body in
    let told = c.judge_body-in-Word.ensures in
    with_version c.args.scope.left_out.now c.args.scope.excused.now c.args.table.now (Word body) c.args.cert.now c.judge_body-in-Word.result (sym c.in-Word.is) (c.has_version.ensures.0 c.if-not-has_version.false)
    (judged c.args.scope.left_out.now c.args.scope.excused.now c.args.table.now c.new-dues.result (Word body) c.new-dues.ensures.table (subst (λ (cert : Certificate). HasVersion c.args.table.now cert × MayExcuse c.args.scope.excused.now cert) (sym (sym c.in-Word.is)) (c.has_version.ensures.0 c.if-not-has_version.false)) tt c.judge_body-in-Word.result told.accepted told.refused).0

pub returns-in-Dues-clause-refused : goal.returns-in-Dues-clause-refused
returns-in-Dues-clause-refused g c =
    let body = c.body-in-Dues.result.now in
    let told = c.judge_body.ensures in
    subst (λ (cert : Certificate). IfErr c.judge_body.result (IfFault (IsRefusedAs (closed_up_to c.args.scope.left_out.now c.args.scope.excused.now) c.args.table.now cert))) (ap Dues c.body-in-Dues.ensures.body ∙ sym c.in-Dues.is)
    (judged c.args.scope.left_out.now c.args.scope.excused.now c.args.table.now c.new-dues.result (Dues body) c.new-dues.ensures.table (subst (λ (cert : Certificate). HasVersion c.args.table.now cert × MayExcuse c.args.scope.excused.now cert) (sym (ap Dues c.body-in-Dues.ensures.body ∙ sym c.in-Dues.is)) (c.has_version.ensures.0 c.if-not-has_version.false)) tt c.judge_body.result told.accepted told.refused).1

pub returns-in-Word-clause-refused : goal.returns-in-Word-clause-refused
returns-in-Word-clause-refused g c =
    let body = c.in-Word.body in
    let told = c.judge_body-in-Word.ensures in
    subst (λ (cert : Certificate). IfErr c.judge_body-in-Word.result (IfFault (IsRefusedAs (closed_up_to c.args.scope.left_out.now c.args.scope.excused.now) c.args.table.now cert))) (sym c.in-Word.is)
    (judged c.args.scope.left_out.now c.args.scope.excused.now c.args.table.now c.new-dues.result (Word body) c.new-dues.ensures.table (subst (λ (cert : Certificate). HasVersion c.args.table.now cert × MayExcuse c.args.scope.excused.now cert) (sym (sym c.in-Word.is)) (c.has_version.ensures.0 c.if-not-has_version.false)) tt c.judge_body-in-Word.result told.accepted told.refused).1
