use Rattle.std.proofs.Common.{◌≡◌, ◌∙◌, ◌<◌, List, Some, arith, length, refl, slice_get, subst}
use Rattle.std.specs.List.{Contains}
use Rattle.std.proofs.lemmas.Option.{slice_get_read}
use Rattle.brl_pairs.specs.declared.edge.ListedEdge.{ListedEdge}
use Rattle.brl_unused.specs.Marking.{MarksMore}
use Rattle.brl_unused.proofs.Marked.{marked_next}
use Rattle.brl_unused.proofs.taken.rules_to_live.Goals as goal

pub mark_rules-requires : goal.mark_rules-requires
mark_rules-requires g c = λ e one.
    let f = c.args.found.now in
    let place = c.loop-place.place in
    let own = c.index.result.now in
    let less : place < length f.expanded.items = (let test = c.loop-place-test.true in let end = c.len-place-end.ensures in omega (arith, test, end)) in
    let at : slice_get f.expanded.items place ≡ Some own = slice_get_read f.expanded.items (length f.expanded.items) place own refl less c.index.ensures in
    let known = c.requires.whole.nexts place e (record { own = own; at = at; one = subst (λ (es : List ListedEdge). Contains es e) (c.as_slice.ensures.value ∙ c.in_ok-edges.ensures) one }) in
    omega (arith, known, c.requires.live)

pub loop-place-preserved : goal.loop-place-preserved
loop-place-preserved g c =
    let f = c.args.found.now in
    let place = c.loop-place.place in
    let own = c.index.result.now in
    let less : place < length f.expanded.items = (let test = c.loop-place-test.true in let end = c.len-place-end.ensures in omega (arith, test, end)) in
    let at : slice_get f.expanded.items place ≡ Some own = slice_get_read f.expanded.items (length f.expanded.items) place own refl less c.index.ensures in
    marked_next f c.args.live.now place c.args.rules own at c.loop-place.marks.items c.loop-place.invariant c.mark_rules.new.marks.items
    (subst (λ (es : List ListedEdge). MarksMore es c.args.live.now c.loop-place.marks.items c.mark_rules.new.marks.items) (c.as_slice.ensures.value ∙ c.in_ok-edges.ensures) c.mark_rules.ensures)
