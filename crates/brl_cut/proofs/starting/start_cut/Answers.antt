use Rattle.std.proofs.Common.{ap, inr, subst}
use Rattle.std.proofs.lemmas.Result.{err_from_is_err_and}
use Rattle.brl_failure.specs.Raised.{if_fault-weaker}
use Rattle.brl_cut.specs.Edits.{Texts}
use Rattle.brl_cut.specs.Rewriting.{RewrittenView}
use Rattle.brl_cut.specs.RewritingViews.{around_view}
use Rattle.brl_cut.specs.Rounds.{IsUnsettled}
use Rattle.brl_cut.proofs.starting.start_cut.Goals as goal

pub returns-in_err-settled-clause-fault : goal.returns-in_err-settled-clause-fault
returns-in_err-settled-clause-fault c =
    let around = around_view c.args.around in
    let p = err_from_is_err_and c.from_residual-in_err-settled.result c.from_residual-in_err-settled.ensures.1 in
    rw (p.1, p.2)
    (if_fault-weaker _ _ c.in_err-settled.field-0.0
    (λ why h. inr (subst (λ (fs : Texts). IsUnsettled around.folders around.root fs why) (ap (λ (r : RewrittenView). r.files) c.in_ok-rewritten.ensures) h)) c.in_err-settled.ensures.fault)
