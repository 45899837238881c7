use Rattle.std.proofs.Common.{slice_get}
use Rattle.std.proofs.lemmas.Result.{err_from_is_err_and}
use Rattle.brl_pairs.specs.Sets.{pair_at}
use Rattle.brl_closure.proofs.Closing.{open_where_failed}
use Rattle.brl_closure.proofs.check.checker.accept_up_to.Goals as goal

pub returns-in_err-check-clause-not_closed : goal.returns-in_err-check-clause-not_closed
returns-in_err-check-clause-not_closed g c =
    let p = err_from_is_err_and c.from_residual.result c.from_residual.ensures.1 in
    rw (p.1, p.2) (open_where_failed (g.M.Machine.behaviour c.args.machine.now) c.args.excused.now c.args.body.now c.in_err-check.field-0.0 c.in_err-check.ensures.refused)

pub returns-clause-texts : goal.returns-clause-texts
returns-clause-texts g c =
    let body = c.args.body.now in
    c.numbered_exchange_law.ensures.texts c.args.excused.now.exchanged c.args.excused.now.accepted (slice_get body.states) (pair_at body) c.in_ok-check.ensures.closed
