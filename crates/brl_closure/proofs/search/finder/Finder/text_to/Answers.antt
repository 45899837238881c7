use Rattle.std.proofs.Common.{◌≡◌, ◌++◌, length, reverse, List, sym, ap, subst, arith}
use Rattle.brl_pairs.specs.declared.step.Step.{Step}
use Rattle.brl_closure.specs.KnownSteps.{AreKnown}
use Rattle.brl_closure.specs.Trail.{TakesStep}
use Rattle.brl_closure.specs.Path.{HasStepAt, IsPlaceTo, LeadsTo}
use Rattle.brl_closure.proofs.Path.{origin_of, text_back}
use Rattle.brl_pairs.proofs.Lists.{read_at, same_place}
use Rattle.brl_closure.proofs.search.finder.Finder.text_to.Goals as goal

pub index-requires : goal.index-requires
index-requires g c = omega (arith, c.loop-state.invariant.within, c.requires.traced.state_origins, c.args.trail.now.state_origins.ok.0)

pub place_to-requires-clause-leads : goal.place_to-requires-clause-leads
place_to-requires-clause-leads g c =
    let m = g.M.Machine.behaviour c.args.self.now.machine.now in
    let states = c.args.trail.now.states in
    let k = c.loop-state.state in
    let o = origin_of m c.args.trail.now c.requires.traced k (omega arith) c.loop-state.invariant.within c.index.result.now c.index.ensures in
    let at = read_at c.as_slice-states.result.now states k c.index-states-state.result c.as_slice-states.ensures.members (omega (arith, c.loop-state.invariant.within, ap length c.as_slice-states.ensures.members)) c.index-states-state.is in
    let same = same_place states k o.0 c.index-states-state.result o.1 at in
    subst (λ (xs : List g.row.M-State.Denot). LeadsTo m xs c.index.result.now.parent c.index-states-state.result) (sym c.as_slice-states.ensures.members)
    (subst (LeadsTo m states c.index.result.now.parent) same (o.3.place, record { step = o.3.step; taken = o.3.taken; next = o.3.next }))

pub push_reads-requires-clause-step : goal.push_reads-requires-clause-step
push_reads-requires-clause-step g c = record { step = c.in_ok-place.ensures.place.step; taken = c.in_ok-place.ensures.place.taken }

pub loop-state-smaller : goal.loop-state-smaller
loop-state-smaller g c =
    let o = origin_of (g.M.Machine.behaviour c.args.self.now.machine.now) c.args.trail.now c.requires.traced c.loop-state.state (omega arith) c.loop-state.invariant.within c.index.result.now c.index.ensures in
    o.2

pub loop-state-preserved : goal.loop-state-preserved
loop-state-preserved g c =
    let m = g.M.Machine.behaviour c.args.self.now.machine.now in
    let states = c.args.trail.now.states in
    let k = c.loop-state.state in
    let parent = c.index.result.now.parent in
    let to = c.index-states-state.result in
    let o = origin_of m c.args.trail.now c.requires.traced k (omega arith) c.loop-state.invariant.within c.index.result.now c.index.ensures in
    let at = read_at c.as_slice-states.result.now states k to c.as_slice-states.ensures.members (omega (arith, c.loop-state.invariant.within, ap length c.as_slice-states.ensures.members)) c.index-states-state.is in
    let leads = subst (λ (xs : List g.row.M-State.Denot). IsPlaceTo m xs parent to c.in_ok-place.place) c.as_slice-states.ensures.members c.in_ok-place.ensures.place in
    record {
      within = omega (arith, o.2, c.loop-state.invariant.within);
      text = λ r r_at. text_back m c.args.trail.now c.requires.traced k c.args.number c.loop-state.text.items c.push_reads.new.text.items to at (c.loop-state.invariant.text to at) parent c.in_ok-place.place leads
          (subst (λ (xs : List g.row.M-State.Denot). (x : Step g.row.M-State.Denot) → TakesStep m xs parent c.in_ok-place.place x → c.push_reads.new.text.items ≡ c.loop-state.text.items ++ reverse x.reads) c.as_slice-states.ensures.members c.in_ok-push_reads.ensures.text)
          r r_at;
      known = subst (λ (xs : List g.row.M-State.Denot). AreKnown m xs c.push_reads.new.known) c.as_slice-states.ensures.members c.in_ok-push_reads.ensures.known;
    }

pub place_to-requires-clause-known : goal.place_to-requires-clause-known
place_to-requires-clause-known g c =
    subst (λ (xs : List g.row.M-State.Denot). AreKnown (g.M.Machine.behaviour c.args.self.now.machine.now) xs c.loop-state.known) (sym c.as_slice-states.ensures.members) c.loop-state.invariant.known
