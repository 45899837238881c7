use Rattle.std.proofs.Common.{◌≡◌, ◌∙◌, ◌<◌, List, ap, length, subst, sym}
use Rattle.brl_contexts.proofs.contexts.list_own.Goals as goal
use Rattle.brl_pairs.specs.Listed.{AreListedEdges}
use Rattle.brl_pairs.specs.declared.step.Step.{Step}
use Rattle.brl_pairs.proofs.Lists.{read_at, same_place}

pub returns-clause-edges : goal.returns-clause-edges
returns-clause-edges g c s there =
    let m = g.B.Machine.behaviour c.args.machine.now in
    let named = c.number_steps.new.named in
    let states = c.args.named.now.states in
    let own = c.index-as_slice-state.result in
    let at = read_at c.as_slice.result.now states c.args.state own c.as_slice.ensures.members (subst (λ (l : List g.row.B-State.Denot). c.args.state < length l) (sym c.as_slice.ensures.members) c.requires) c.index-as_slice-state.is in
    let same : own ≡ s = same_place named.states c.args.state own s (c.in_ok-number_steps.ensures.names.states c.args.state own at) there in
    subst (λ (steps : List (Step g.row.B-State.Denot)). AreListedEdges named.states named.cells steps c.number_steps.new.edges.items) (c.in_ok-steps.ensures ∙ ap m.steps same) c.in_ok-number_steps.ensures.edges
