use Rattle.std.proofs.Common.{ℕ, List, length, sym, subst, arith}
use Rattle.brl_closure.specs.Sorted.{AreFound}
use Rattle.brl_closure.proofs.UnsharedSplits.{HasOfMatch, least_at_place, least_below, least_of_match}
use Rattle.brl_closure.proofs.check.missing.missing_split_at_place.Goals as goal

pub loop-matching-preserved : goal.loop-matching-preserved
loop-matching-preserved c =
    let a = c.args in
    let n = c.loop-matching.matching-index in
    let matching = c.as_slice-matching-items.result.now in
    least_below (HasOfMatch a.excused.now a.pairs.now a.edges.now.edges a.place matching) n c.loop-matching.best c.in_ok-missing.missing c.lesser-best.result c.loop-matching.invariant
    (least_of_match a.excused.now a.pairs.now a.edges.now.edges a.place matching n c.loop-matching-test.true c.in_ok-missing.missing c.in_ok-missing.ensures) c.lesser-best.ensures

pub returns : goal.returns
returns c =
    let a = c.args in
    let edges = a.edges.now.edges in
    let matching = c.as_slice-matching-items.result.now in
    let e = c.in_ok-edge.edge in
    let those = subst (λ (lead : List ℕ). AreFound edges lead (length edges) matching) c.as_slice.ensures (subst (AreFound edges c.as_slice.result.now (length edges)) (sym c.as_slice-matching-items.ensures.value) c.in_ok-found.ensures) in
    least_at_place a.excused.now a.pairs.now edges a.place e c.in_ok-edge.ensures matching those c.loop-matching.matching-index (omega arith) c.loop-matching.best c.loop-matching.invariant
