use Rattle.std.proofs.Common.{◌≡◌, ◌∙◌, ◌<◌, List, ap, arith, length, map, refl, subst, sym}
use Rattle.std.proofs.lemmas.Option.{slice_get_within}
use Rattle.brl_contexts.specs.Contexts.{edges_of}
use Rattle.brl_contexts.specs.declared.contexts.ByContext.{ByContext}
use Rattle.brl_contexts.proofs.EdgesIn.{are_edges, is_within}
use Rattle.brl_contexts.proofs.Kept.{contexts_kept, forms_kept}
use Rattle.brl_contexts.proofs.contexts.expand_in.Goals as goal
use Rattle.brl_pairs.specs.Listed.{AreListedEdges}
use Rattle.brl_pairs.proofs.Lists.{read_at, same_place}

pub changes_of-requires-clause-shared : goal.changes_of-requires-clause-shared
changes_of-requires-clause-shared g c =
    let contexts = c.args.contexts.now in
    let own = c.requires.context in
    let forms = c.index-forms.result.now in
    let count = c.requires.contexts.count in
    let within = slice_get_within contexts.bases c.args.context own.base own.context_at in
    let there = read_at contexts.forms.items contexts.forms.items c.args.context forms refl (omega (arith, count, within)) c.index-forms.ensures in
    record { state = own.state; base = own.base; at = own.at; is_base = own.is_base; are_forms = c.requires.contexts.each c.args.context own.base forms own.context_at there; are_carried = c.requires.contexts.are_carried }

pub changes_of-requires-clause-opens : goal.changes_of-requires-clause-opens
changes_of-requires-clause-opens g c s at =
    let h = g.B.Based.sharing c.args.machine.now in
    let states = c.args.contexts.now.named.states in
    let gates = c.index-forms.result.now.gates.items in
    let own = c.index-as_slice-state.result in
    let own_at = read_at c.as_slice.result.now states c.args.state own c.as_slice.ensures.members
    (subst (λ (l : List g.row.B-State.Denot). c.args.state < length l) (sym c.as_slice.ensures.members) (slice_get_within states c.args.state s at)) c.index-as_slice-state.is in
    let same : own ≡ s = same_place states c.args.state own s own_at at in
    c.as_slice-3.ensures.value ∙ c.in_ok-opens.ensures ∙ ap (map (h.opens own)) c.as_slice-2.ensures.value ∙ ap (λ t. map (h.opens t) gates) same

pub returns-clause-contexts : goal.returns-clause-contexts
returns-clause-contexts g c =
    contexts_kept (g.B.Machine.behaviour c.args.machine.now) (g.B.Based.sharing c.args.machine.now) c.args.contexts.now c.changes_of.new.named c.in_ok-changes.ensures.names c.in_ok-changes.ensures.carried
    c.requires.contexts

pub returns-clause-edges : goal.returns-clause-edges
returns-clause-edges g c =
    let eq = g.B.State.PartialEq.eq in
    let m = g.B.Machine.behaviour c.args.machine.now in
    let h = g.B.Based.sharing c.args.machine.now in
    let contexts = c.args.contexts.now in
    let named = c.changes_of.new.named in
    let names = c.in_ok-changes.ensures.names in
    let known = c.requires.context in
    let s = known.state in
    let base = known.base in
    let forms = c.index-forms.result.now in
    let count = c.requires.contexts.count in
    let within = slice_get_within contexts.bases c.args.context base known.context_at in
    let there = read_at contexts.forms.items contexts.forms.items c.args.context forms refl (omega (arith, count, within)) c.index-forms.ensures in
    let are = forms_kept m h contexts.named named names (m.steps base) forms (c.requires.contexts.each c.args.context base forms known.context_at there) in
    let state = c.index-as_slice-state.result in
    let state_at = read_at c.as_slice.result.now contexts.named.states c.args.state state c.as_slice.ensures.members
    (subst (λ (l : List g.row.B-State.Denot). c.args.state < length l) (sym c.as_slice.ensures.members) (slice_get_within contexts.named.states c.args.state s known.at)) c.index-as_slice-state.is in
    let same : state ≡ s = same_place contexts.named.states c.args.state state s state_at known.at in
    let opens : c.in_ok-opens.opens.items ≡ map (h.opens s) forms.gates.items = c.in_ok-opens.ensures ∙ ap (map (h.opens state)) c.as_slice-2.ensures.value ∙ ap (λ t. map (h.opens t) forms.gates.items) same in
    let own : ByContext = record { context = c.args.context; opens = c.in_ok-opens.opens; changes = c.in_ok-changes.changes } in
    let at = names.states c.args.state s known.at in
    let changes = c.in_ok-changes.ensures.changes s base at known.is_base in
    record {
      within = (forms, there, is_within eq g.met.B.State.Key.same m h c.law.ensures s base known.is_base named forms are own opens changes);
      state = s;
      at = at;
      edges = subst (λ o. AreListedEdges named.states named.cells (m.steps s) (edges_of o own)) (sym there)
          (are_edges eq g.met.B.State.Key.same m h c.law.ensures s base known.is_base named forms are own opens changes);
    }
