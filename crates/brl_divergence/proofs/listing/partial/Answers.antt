use Rattle.brl_closure.proofs.Reached.{pairs_counted, states_counted}
use Rattle.brl_divergence.proofs.listing.partial.Goals as goal

pub returns : goal.returns
returns g c =
    let m = g.M.Machine.behaviour c.args.finder.now.machine.now in
    let over = c.requires in (
      over.listed,
      over.rules,
      rw (c.as_slice.ensures.members, c.len-pairs.ensures) (record {
        passed = over.more;
        few_states = over.states;
        few_pairs = over.pairs;
        states_reached = states_counted m c.args.found.trail over.traced c.as_slice.ensures.one_number;
        pairs_reached = pairs_counted m c.args.found.trail over.traced c.as_slice.ensures.one_number;
      }),
    )
