use Rattle.std.proofs.Common.{refl, ◌∙◌}
use Rattle.brl_closure.proofs.Numbers.{runs}
use Rattle.brl_closure.proofs.MissingAt.{ends_at, pair_read}
use Rattle.brl_closure.proofs.check.missing.has_two_ends_at.Goals as goal

pub returns : goal.returns
returns g c =
    let body = c.args.body.now in
    ends_at (g.M.Machine.behaviour c.args.machine.now) body c.args.number (runs c.states_of.result.0.now c.states_of.result.1.now c.as_slice-2.result.now) (pair_read body c.args.number c.requires.number c.as_slice.result.now (c.as_slice.ensures.members ∙ c.pairs.ensures) c.args.body.now.states refl c.index-as_slice-number.result c.index-as_slice-number.is c.states_of.result.0.now c.states_of.result.1.now c.states_of.ensures.ahead c.states_of.ensures.behind c.as_slice-2.result.now c.as_slice-2.ensures) c.both_end.result c.both_end.ensures
