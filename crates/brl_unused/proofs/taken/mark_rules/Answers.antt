use Rattle.std.proofs.Common.{◌∙◌, ◌<◌, ◌++◌, ◌∷◌, [], List, Some, ap, arith, false, get_or, length, subst, sym, take}
use Rattle.std.proofs.lemmas.Option.{slice_get-get_or}
use Rattle.brl_contexts.specs.Contexts.{no_edge}
use Rattle.brl_pairs.proofs.Lists.{take-got}
use Rattle.brl_pairs.proofs.Numbered.{contained}
use Rattle.brl_pairs.specs.declared.edge.ListedEdge.{ListedEdge}
use Rattle.brl_unused.specs.Marking.{MarksMore}
use Rattle.brl_unused.proofs.Marked.{mark-nothing, mark-rule, not_both}
use Rattle.brl_unused.proofs.taken.mark_rules.Goals as goal
use Rattle.brl_unused.proofs.taken.mark_rules.Goals.{then-rule-len+then-live-edge, else-rule-len, else-rule-len-via-then-rule-len+else-live-edge, else-rule-len-via-else-rule-len}

pub bounds-live-edge : goal.bounds-live-edge
bounds-live-edge c =
    let edges = c.args.edges.now in
    let i = c.loop-edge.edge-index in
    c.requires (get_or edges i no_edge) (contained edges i (get_or edges i no_edge) (slice_get-get_or edges i no_edge c.loop-edge-test.true))

pub loop-edge-preserved : goal.loop-edge-preserved
loop-edge-preserved c =
    let edges = c.args.edges.now in
    let live = c.args.live.now in
    let old = c.args.marks.now.items in
    let marks = c.loop-edge.marks.items in
    let i = c.loop-edge.edge-index in
    let e = get_or edges i no_edge in
    let at = slice_get-get_or edges i no_edge c.loop-edge-test.true in
    let within : e.next < length live = c.requires e (contained edges i e at) in
    let read = slice_get-get_or live e.next false within in
    let more : MarksMore (take i edges ++ e ∷ []) live old c.if-rule-len.marks.items =
    elim c.if-rule-len.branch [
      | then-rule-len+then-live-edge w ↦
          subst (MarksMore (take i edges ++ e ∷ []) live old) (sym (ap (λ v. v.items) w.marks-is))
          (mark-rule (take i edges) live old marks c.loop-edge.invariant e (let low = w.if-rule-len.true in let size = c.len.ensures in omega (arith, low, size)) (read ∙ ap Some w.if-live-edge.true))
      | else-rule-len w ↦
          subst (MarksMore (take i edges ++ e ∷ []) live old) (sym (ap (λ v. v.items) w.marks-is))
          (mark-nothing (take i edges) live old marks c.loop-edge.invariant e (λ low is.
          elim w.else-rule-len.branch [
            | else-rule-len-via-then-rule-len+else-live-edge v ↦ not_both (get_or live e.next false) v.if-live-edge.false (sym read ∙ is)
            | else-rule-len-via-else-rule-len v ↦ (let high = v.if-rule-len.false in let size = c.len.ensures in omega (arith, low, high, size))
          ]))
    ] in
    subst (λ (xs : List ListedEdge). MarksMore xs live old c.if-rule-len.marks.items) (sym (take-got edges i e at)) more
