use Rattle.brl_pairs.proofs.Excusing.{closed_from_up_to, up_to_from_closed}
use Rattle.brl_pairs.proofs.laws.nothing_excused_law.Goals as goal

pub returns : goal.returns
returns g c =
    let m = g.M.Machine.behaviour c.args.machine.now in
    (closed_from_up_to m g.C.Sets.sets, up_to_from_closed m g.C.Sets.sets)
