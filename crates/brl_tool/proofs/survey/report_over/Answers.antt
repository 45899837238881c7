use Rattle.std.proofs.Common.{[], inl, inr, true}
use Rattle.std.proofs.lemmas.Result.{IfErr-weaker, IfOk-weaker, err_from_is_err_and}
use Rattle.brl_answers.proofs.StepLemmas.{ends_as}
use Rattle.brl_answers.specs.Status.{of_cut_fault}
use Rattle.brl_cut.specs.Cuts.{IsCutFault}
use Rattle.brl_tool.proofs.survey.report_over.Goals as goal

-- the table isn't cut
pub returns-in_err-of-clause-fault : goal.returns-in_err-of-clause-fault
returns-in_err-of-clause-fault g c =
    let is = IsCutFault true (g.S.Source.gives c.args.source.now) c.args.path.now [] in
    let p = err_from_is_err_and c.from_residual.result c.from_residual.ensures.1 in
    rw p.1 (inl (ends_as of_cut_fault is _ p.0 p.2 c.in_err-of.ensures.fault))

pub returns-clause-report : goal.returns-clause-report
returns-clause-report g c = IfOk-weaker c.report_of_table.result _ _ (λ report is. (c.in_ok-of.of, c.in_ok-of.ensures.cut, is)) c.report_of_table.ensures.report

pub returns-clause-fault : goal.returns-clause-fault
returns-clause-fault g c = IfErr-weaker c.report_of_table.result _ _ (λ fault is. inr (c.in_ok-of.of, c.in_ok-of.ensures.cut, is)) c.report_of_table.ensures.fault
