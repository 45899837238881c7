use Rattle.std.proofs.Common.{◌<◌, List, length, subst, sym}
use Rattle.brl_contexts.proofs.Kept.{contexts_kept, knows_then, own_edges}
use Rattle.brl_contexts.proofs.contexts.expand.Goals as goal
use Rattle.brl_pairs.proofs.Lists.{read_at}

pub returns-in_ok-own-in-Some-clause-knows : goal.returns-in_ok-own-in-Some-clause-knows
returns-in_ok-own-in-Some-clause-knows g c =
    knows_then c.args.contexts.now c.context_of.new.contexts c.expand_in.new.contexts c.in_ok-context-in-Some.ensures.knows c.in_ok-own-in-Some.ensures.knows

pub returns-in_ok-edges-in-None-clause-contexts : goal.returns-in_ok-edges-in-None-clause-contexts
returns-in_ok-edges-in-None-clause-contexts g c =
    contexts_kept (g.B.Machine.behaviour c.args.machine.now) (g.B.Based.sharing c.args.machine.now) c.args.contexts.now c.list_own.new.named c.in_ok-edges-in-None.ensures.names
    (c.in_ok-edges-in-None.ensures.carries (g.B.Based.sharing c.args.machine.now) c.requires.contexts.are_carried) c.requires.contexts

pub returns-in_ok-edges-in-None-clause-edges : goal.returns-in_ok-edges-in-None-clause-edges
returns-in_ok-edges-in-None-clause-edges g c =
    let states = c.args.contexts.now.named.states in
    let s = c.index-as_slice-state.result in
    let within = subst (λ (l : List g.row.B-State.Denot). c.args.state < length l) (sym c.as_slice.ensures.members) c.requires.within in
    let at = read_at c.as_slice.result.now states c.args.state s c.as_slice.ensures.members within c.index-as_slice-state.is in
    own_edges (g.B.Machine.behaviour c.args.machine.now) (record { named = c.list_own.new.named; bases = c.args.contexts.now.bases; forms = c.args.contexts.now.forms }) c.args.state c.in_ok-edges-in-None.edges
    s (c.in_ok-edges-in-None.ensures.names.states c.args.state s at) c.in_ok-edges-in-None.ensures.edges
