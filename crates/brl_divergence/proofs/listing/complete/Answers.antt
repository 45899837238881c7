use Rattle.std.proofs.Common.{get_or, arith}
use Rattle.std.proofs.lemmas.Option.{slice_get-get_or}
use Rattle.brl_closure.proofs.Reached.{body_pairs, body_states, in_order}
use Rattle.brl_divergence.proofs.Settling.{done_closed}
use Rattle.brl_divergence.proofs.listing.complete.Goals as goal

pub new-requires : goal.new-requires
new-requires g c =
    let active = c.requires.1.sound.explored.ready.active in
    let t = c.args.found.trail in
    record {
      few_states = omega (arith, active.few_states, active.small);
      few_pairs = omega (arith, active.few_pairs, active.small);
      each_pair = λ k d less. active.traced.in_range k (get_or t.pairs k d) (slice_get-get_or t.pairs k d less);
    }

pub returns : goal.returns
returns g c =
    let m = g.M.Machine.behaviour c.args.finder.now.machine.now in
    let t = c.args.found.trail in
    let sound = c.requires.1.sound in
    let active = sound.explored.ready.active in (
      sound.listed,
      sound.few,
      rw c.new.ensures (record {
        closed = done_closed g.M.Machine.behaviour c.args.finder.now c.requires.0 c.args.found c.requires.1;
        states = body_states m t active.traced;
        pairs = body_pairs m t active.traced;
        within = (active.few_states, active.few_pairs);
        order = in_order m t active.traced;
      }),
    )
