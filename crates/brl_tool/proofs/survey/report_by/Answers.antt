use Rattle.std.proofs.lemmas.Result.{err_from_is_err_and}
use Rattle.brl_answers.proofs.StepLemmas.{ends_as}
use Rattle.brl_answers.specs.declared.run_fault.RunFault.TheVariants.{Load}
use Rattle.brl_lines.specs.Skipping.{IsUnloaded}
use Rattle.brl_tool.proofs.survey.report_by.Goals as goal

-- the table can't be loaded
pub returns-in_err-report_at-in-None-clause-fault : goal.returns-in_err-report_at-in-None-clause-fault
returns-in_err-report_at-in-None-clause-fault g c =
    let p = err_from_is_err_and c.from_residual.result c.from_residual.ensures.1 in
    rw (p.1, c.in-None.is) (ends_as Load (IsUnloaded (g.S.Source.gives c.args.source.now) c.args.path.now) _ p.0 p.2 c.in_err-report_at-in-None.ensures.fault)
