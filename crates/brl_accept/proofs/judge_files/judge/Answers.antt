use Rattle.std.proofs.Common.{◌≡◌, List, ℕ, Result, Ok, Err, IfErr, IfOk, inr, ap, refl, sym, subst}
use Rattle.std.proofs.lemmas.Result.{err_from_is_err_and}
use Rattle.brl_accept.specs.Judging.{IsAccepted, IsRefusedBy}
use Rattle.brl_accept.specs.declared.judge_fault.JudgeFault.{JudgeFault}
use Rattle.brl_accept.specs.declared.judge_fault.JudgeFault.TheVariants.{NoTable}
use Rattle.brl_failure.specs.Failure.{IfFault, IsRaised}
use Rattle.brl_failure.specs.Raised.{if_err-raised, if_fault-weaker, raised_is}
use Rattle.brl_failure.specs.declared.failure.Failure.{Failure}
use Rattle.brl_failure.specs.declared.failure.Failure.TheVariants.{Fault, Memory}
use Rattle.brl_lines.specs.Answer.{FileAnswers}
use Rattle.brl_lines.specs.Outcome.{CountsFailure}
use Rattle.brl_table.specs.Faults.{IsFaultAt, load_outcome as outcome_at}
use Rattle.brl_table.specs.Files.{IsTableOf}
use Rattle.brl_table.specs.declared.no_table.NoTable.{NoTable as NoTableFault}
use Rattle.brl_rules.specs.TableView.{TableView}
use Rattle.brl_accept.proofs.Judged.{accepted_at, judged_count, refused_at}
use Rattle.brl_accept.proofs.judge_files.judge.Goals as goal

module _ (gives : FileAnswers) (root : List ℕ) (step : Result TableView (Failure NoTableFault)) (raised : Result TableView (Failure JudgeFault)) (is : IsRaised (λ one other. other ≡ NoTable one) step raised) where
  -- the fault is why there is no table
  abbrev IsNoTable : JudgeFault → Type 0
  IsNoTable fault = (one : NoTableFault) × (fault ≡ NoTable one) × IsFaultAt gives root one

  no_table : (failure : Failure JudgeFault) → raised ≡ Err failure → IfErr step (IfFault (IsFaultAt gives root)) → IfFault IsNoTable failure
  no_table failure e h =
      subst (λ (r : Result TableView (Failure JudgeFault)). IfErr r (IfFault IsNoTable)) e (if_err-raised _ (IsFaultAt gives root) IsNoTable step raised is h (λ one other same fault. (one, same, fault)))

  -- it is the first of the reasons to refuse
  refused_first : (bytes : List ℕ) (failure : Failure JudgeFault) → raised ≡ Err failure → IfErr step (IfFault (IsFaultAt gives root)) → IfFault (IsRefusedBy gives root bytes) failure
  refused_first bytes failure e h = if_fault-weaker _ _ failure (λ fault none. subst (IsRefusedBy gives root bytes) (sym none.1) none.2) (no_table failure e h)

  -- where there is a table, memory ran out
  only_memory : (failure : Failure JudgeFault) → raised ≡ Err failure → IfErr step (IfFault (IsFaultAt gives root)) → ((fault : NoTableFault) → IsFaultAt gives root fault → ⊥) → failure ≡ Memory
  only_memory failure e h no_fault = by failure (no_table failure e h)
    where
      by : (f : Failure JudgeFault) → IfFault IsNoTable f → f ≡ Memory
      by (Fault fault) none = absurd (no_fault none.0 none.2)
      by Memory none = refl

  -- the table that was loaded
  the_table : (P : TableView → Type 0) (t : TableView) → raised ≡ Ok t → IfOk step P → P t
  the_table P t e h = subst (λ (r : Result TableView (Failure NoTableFault)). IfOk r P) (raised_is _ step raised t is e) h

pub returns-in_err-table-clause-refused : goal.returns-in_err-table-clause-refused
returns-in_err-table-clause-refused g c =
    let p = err_from_is_err_and c.from_residual.result c.from_residual.ensures.1 in
    rw (p.1, p.2)
    (refused_first (g.S.Source.gives c.args.source.now) c.args.root.now c.load_table.result c.raise.result c.raise.ensures c.args.cert.now c.in_err-table.field-0.0 c.in_err-table.was c.load_table.ensures.fault)

pub returns-in_err-table-clause-decides : goal.returns-in_err-table-clause-decides
returns-in_err-table-clause-decides g c one t is accepted deserved =
    let p = err_from_is_err_and c.from_residual.result c.from_residual.ensures.1 in
    rw (p.1, p.2)
    (inr (ap Err (only_memory (g.S.Source.gives c.args.source.now) c.args.root.now c.load_table.result c.raise.result c.raise.ensures c.in_err-table.field-0.0 c.in_err-table.was c.load_table.ensures.fault (c.one_table_law.ensures.fault one c.args.root.now t is))))

pub returns-clause-accepted : goal.returns-clause-accepted
returns-clause-accepted g c =
    let gives = g.S.Source.gives c.args.source.now in
    let root = c.args.root.now in
    let table = the_table gives root c.load_table.result c.raise.result c.raise.ensures (IsTableOf gives root) c.in_ok-table.table c.in_ok-table.was c.load_table.ensures.table in
    accepted_at gives root c.args.cert.now c.in_ok-table.table table c.judge_all_texts.result c.judge_all_texts.ensures.unambiguous c.judge_all_texts.ensures.accepted

pub returns-clause-refused : goal.returns-clause-refused
returns-clause-refused g c =
    let gives = g.S.Source.gives c.args.source.now in
    let root = c.args.root.now in
    let table = the_table gives root c.load_table.result c.raise.result c.raise.ensures (IsTableOf gives root) c.in_ok-table.table c.in_ok-table.was c.load_table.ensures.table in
    refused_at gives root c.args.cert.now c.in_ok-table.table table c.judge_all_texts.result c.judge_all_texts.ensures.refused c.judge_all_texts.ensures.decides

pub returns-clause-decides : goal.returns-clause-decides
returns-clause-decides g c one t is accepted deserved =
    let gives = g.S.Source.gives c.args.source.now in
    let root = c.args.root.now in
    let table = the_table gives root c.load_table.result c.raise.result c.raise.ensures (IsTableOf gives root) c.in_ok-table.table c.in_ok-table.was c.load_table.ensures.table in
    c.judge_all_texts.ensures.decides accepted (subst (λ (u : TableView). IsAccepted u c.args.cert.now accepted) (c.one_table_law.ensures.table one root t c.in_ok-table.table is table) deserved)

pub returns-clause-count : goal.returns-clause-count
returns-clause-count g c =
    let faults = g.S.Source.faults in
    let before = faults c.args.source.now in
    let now = faults c.load_table.new.source in
    let loaded = raised_is _ c.load_table.result c.raise.result c.in_ok-table.table c.raise.ensures c.in_ok-table.was in
    judged_count before now (subst (λ (r : Result TableView (Failure NoTableFault)). CountsFailure before now (outcome_at r)) loaded c.load_table.ensures.count) c.in_ok-table.table c.args.cert.now c.judge_all_texts.result
    c.judge_all_texts.ensures.refused
