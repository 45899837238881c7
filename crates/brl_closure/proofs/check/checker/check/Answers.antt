use Rattle.std.proofs.Common.{subst}
use Rattle.std.proofs.lemmas.Result.{on_ok_weaker}
use Rattle.brl_pairs.specs.Sets.{sets_of}
use Rattle.brl_closure.proofs.Closing.{closed_where_none_missing}
use Rattle.brl_closure.proofs.check.checker.check.Goals as goal

pub returns-clause-closed : goal.returns-clause-closed
returns-clause-closed g c =
    let body = c.args.body.now in
    on_ok_weaker c.check_ends.result
    (closed_where_none_missing (g.M.Machine.behaviour c.args.machine.now) c.args.excused.now body g.met.M.State.Key.same g.met.M.State.Eq.laws.refl
    (subst ((sets_of body).has_state) c.start.ensures.start (c.has_state.ensures.0 c.if-not-has_state.false))
    c.in_ok-check_missing.ensures.steps c.in_ok-check_missing.ensures.splits c.in_ok-check_missing.ensures.moves)
    c.check_ends.ensures.complete
