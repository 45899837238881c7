use Rattle.brl_closure.proofs.Reached.{pairs_counted, states_counted}
use Rattle.brl_closure.proofs.search.finder.Finder.counts.Goals as goal

pub returns : goal.returns
returns g c =
    let m = g.M.Machine.behaviour c.args.self.now.machine.now in
    rw (c.as_slice.ensures.members, c.len.ensures)
    (record {
      passed = c.requires.passed.more;
      few_states = c.requires.passed.states;
      few_pairs = c.requires.passed.pairs;
      states_reached = states_counted m c.args.trail.now c.requires.traced c.as_slice.ensures.one_number;
      pairs_reached = pairs_counted m c.args.trail.now c.requires.traced c.as_slice.ensures.one_number;
    })
