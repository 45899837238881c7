use Rattle.std.proofs.Common.{◌∙◌, ◌<◌, Some, ap, false, get_or, length, refl, sym}
use Rattle.std.proofs.lemmas.Option.{slice_get-get_or}
use Rattle.brl_contexts.specs.Contexts.{no_edge}
use Rattle.brl_pairs.proofs.Numbered.{contained}
use Rattle.brl_unused.proofs.Marked.{none_more, not_both}
use Rattle.brl_unused.proofs.graph.lead_to_live.Goals as goal

pub bounds-live-edge : goal.bounds-live-edge
bounds-live-edge c =
    let edges = c.args.edges.now in
    let i = c.loop-edge.edge-index in
    c.requires (get_or edges i no_edge) (contained edges i (get_or edges i no_edge) (slice_get-get_or edges i no_edge c.loop-edge-test.true))

pub returns-then-live-edge : goal.returns-then-live-edge
returns-then-live-edge c =
    let edges = c.args.edges.now in
    let live = c.args.live.now in
    let i = c.loop-edge.edge-index in
    let e = get_or edges i no_edge in
    let one = contained edges i e (slice_get-get_or edges i no_edge c.loop-edge-test.true) in
    let within : e.next < length live = c.requires e one in
    (λ t. record { edge = e; one = one; is_live = slice_get-get_or live e.next false within ∙ ap Some c.if-live-edge.true }, λ l. refl)

pub loop-edge-preserved : goal.loop-edge-preserved
loop-edge-preserved c =
    let edges = c.args.edges.now in
    let live = c.args.live.now in
    let i = c.loop-edge.edge-index in
    let e = get_or edges i no_edge in
    let at = slice_get-get_or edges i no_edge c.loop-edge-test.true in
    let within : e.next < length live = c.requires e (contained edges i e at) in
    none_more edges live i e at c.loop-edge.invariant (λ is. not_both (get_or live e.next false) c.if-live-edge.false (sym (slice_get-get_or live e.next false within) ∙ is))
