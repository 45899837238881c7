use Rattle.std.proofs.Common.{◌≡◌, ◌∙◌, ◌<◌, List, Some, arith, length, refl, slice_get, subst, sym}
use Rattle.std.specs.List.{Contains}
use Rattle.std.proofs.lemmas.Option.{slice_get_read}
use Rattle.brl_contexts.specs.Contexts.{edges_by}
use Rattle.brl_pairs.specs.declared.edge.ListedEdge.{ListedEdge}
use Rattle.brl_unused.specs.Marking.{LeadToLive}
use Rattle.brl_unused.proofs.Marked.{leads_by}
use Rattle.brl_unused.proofs.graph.leads_on.Goals as goal

pub lead_to_live-requires : goal.lead_to_live-requires
lead_to_live-requires g c = λ e one.
    let f = c.args.found.now in
    let own = c.index.result.now in
    let within : c.args.place < length f.expanded.items = (let low = c.requires.within in let count = c.requires.whole.count in omega (arith, low, count)) in
    let at : slice_get f.expanded.items c.args.place ≡ Some own = slice_get_read f.expanded.items (length f.expanded.items) c.args.place own refl within c.index.ensures in
    let known = c.requires.whole.nexts c.args.place e (record { own = own; at = at; one = subst (λ (es : List ListedEdge). Contains es e) (c.as_slice.ensures.value ∙ c.in_ok-edges.ensures) one }) in
    omega (arith, known, c.requires.live)

pub returns : goal.returns
returns g c =
    let f = c.args.found.now in
    let live = c.args.live.now in
    let own = c.index.result.now in
    let within : c.args.place < length f.expanded.items = (let low = c.requires.within in let count = c.requires.whole.count in omega (arith, low, count)) in
    let at : slice_get f.expanded.items c.args.place ≡ Some own = slice_get_read f.expanded.items (length f.expanded.items) c.args.place own refl within c.index.ensures in
    let same : c.as_slice.result.now ≡ edges_by f.contexts own = c.as_slice.ensures.value ∙ c.in_ok-edges.ensures in
    let by = leads_by f c.args.place own at live in
    (λ t. by.0 (subst (λ (es : List ListedEdge). LeadToLive es live) same (c.lead_to_live.ensures.0 t)), λ l. c.lead_to_live.ensures.1 (subst (λ (es : List ListedEdge). LeadToLive es live) (sym same) (by.1 l)))
