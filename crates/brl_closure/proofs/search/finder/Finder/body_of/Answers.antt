use Rattle.std.proofs.Common.{get_or, arith}
use Rattle.std.proofs.lemmas.Option.{slice_get-get_or}
use Rattle.brl_closure.proofs.Closed.{finished_closed}
use Rattle.brl_closure.proofs.Reached.{body_pairs, body_states, in_order}
use Rattle.brl_closure.proofs.search.finder.Finder.body_of.Goals as goal

pub new-requires : goal.new-requires
new-requires g c = record {
  few_states = omega (arith, c.requires.active.few_states, c.requires.active.small);
  few_pairs = omega (arith, c.requires.active.few_pairs, c.requires.active.small);
  each_pair = λ k d less. c.requires.active.traced.in_range k (get_or c.args.trail.pairs k d) (slice_get-get_or c.args.trail.pairs k d less);
}

pub returns : goal.returns
returns g c =
    let m = g.M.Machine.behaviour c.args.self.now.machine.now in
    rw c.new.ensures (record {
      closed = finished_closed g.M.Machine.behaviour c.args.self.now c.args.trail c.requires;
      states = body_states m c.args.trail c.requires.active.traced;
      pairs = body_pairs m c.args.trail c.requires.active.traced;
      within = (c.requires.active.few_states, c.requires.active.few_pairs);
      order = in_order m c.args.trail c.requires.active.traced;
    })
