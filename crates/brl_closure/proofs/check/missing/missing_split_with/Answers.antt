use Rattle.std.proofs.Common.{◌≡◌, ◌<◌, ℕ, Some, length, slice_get, sym, subst, arith}
use Rattle.brl_closure.specs.Least.{IsLeast}
use Rattle.brl_closure.specs.Sorted.{AreFound}
use Rattle.brl_closure.specs.Steps.{HasBefore, MissUnexcused}
use Rattle.brl_closure.proofs.LeastRule.{named_within, none_before, read_least, read_without, refuted, split_matches}
use Rattle.brl_pairs.specs.declared.edge.Edge.{Edge}
use Rattle.brl_pairs.proofs.Lists.{inside, same_place}
use Rattle.brl_pairs.proofs.SortedLaws.{edge_at}
use Rattle.brl_closure.proofs.check.missing.missing_split_with.Goals.{After-as_slice-matching-items}
use Rattle.brl_closure.proofs.check.missing.missing_split_with.Goals as goal

-- the later edge, and the earlier ones that match its cells
found : (c : After-as_slice-matching-items) → (slice_get c.args.edges.now.edges c.args.second ≡ Some c.in_ok-later.later)
    × AreFound c.args.edges.now.edges c.in_ok-later.later.cells c.args.second c.as_slice-matching-items.result.now
found c =
    let edges = c.args.edges.now.edges in
    let second = c.args.second in
    let y = c.in_ok-later.later in
    let y_at = c.in_ok-later.ensures in
    (y_at, subst (AreFound edges y.cells second) (sym c.as_slice-matching-items.ensures.value) (c.in_ok-found.ensures y y_at))

-- the edge of the match at this place
edge_of_match : (c : After-as_slice-matching-items) (n : ℕ) → n < length c.as_slice-matching-items.result.now → (e : Edge) × (slice_get c.args.edges.now.edges (edge_at c.as_slice-matching-items.result.now n).place ≡ Some e)
edge_of_match c n within = inside c.args.edges.now.edges (edge_at c.as_slice-matching-items.result.now n).place (named_within c.args.edges.now.edges c.in_ok-later.later.cells c.args.second c.as_slice-matching-items.result.now (found c).1 n within)

pub loop-matching-init : goal.loop-matching-init
loop-matching-init c = λ k x e below. absurd (omega arith)

pub returns-then-branch : goal.returns-then-branch
returns-then-branch c = λ later later_at.
    let a = c.args in
    let edges = a.edges.now.edges in
    let y = c.in_ok-later.later in
    let those = found (goal.at.returns-then-branch c).After-as_slice-matching-items in
    let e = edge_of_match (goal.at.returns-then-branch c).After-as_slice-matching-items c.loop-matching.matching-index c.loop-matching-test.true in
    let least = read_least (λ (z : Edge). MissUnexcused a.excused.now a.pairs.now z y) edges y.cells a.second c.as_slice-matching-items.result.now those.1 (split_matches a.excused.now a.pairs.now y) c.loop-matching.matching-index c.loop-matching-test.true e.0 e.1 c.loop-matching.invariant
    c.requires.in_order ((c.in_ok-is_missing_split.ensures e.0 e.1).0 c.if-branch.true) in
    subst (λ (rule : ℕ). IsLeast (HasBefore (λ earlier. MissUnexcused a.excused.now a.pairs.now earlier later) edges a.second) rule) (sym (c.rule_at.ensures e.0 e.1))
    (subst (λ (z : Edge). IsLeast (HasBefore (λ earlier. MissUnexcused a.excused.now a.pairs.now earlier z) edges a.second) e.0.rule) (same_place edges a.second y later those.0 later_at) least)

pub loop-matching-preserved : goal.loop-matching-preserved
loop-matching-preserved c =
    let here = (goal.at.loop-matching-preserved c).After-as_slice-matching-items in
    let e = edge_of_match here c.loop-matching.matching-index c.loop-matching-test.true in
    let y = c.in_ok-later.later in
    read_without (λ (z : Edge). MissUnexcused c.args.excused.now c.args.pairs.now z y) c.args.edges.now.edges y.cells c.args.second c.as_slice-matching-items.result.now (found here).1 (split_matches c.args.excused.now c.args.pairs.now y)
    c.loop-matching.matching-index c.loop-matching-test.true e.0 e.1 c.loop-matching.invariant
    (refuted c.in_ok-is_missing_split.field-0 (c.in_ok-is_missing_split.ensures e.0 e.1) c.if-branch.false)

pub returns : goal.returns
returns c = λ later later_at.
    let a = c.args in
    let y = c.in_ok-later.later in
    let those = found (goal.at.returns c).After-as_slice-matching-items in
    subst (λ (z : Edge). (rule : ℕ) → HasBefore (λ earlier. MissUnexcused a.excused.now a.pairs.now earlier z) a.edges.now.edges a.second rule → ⊥) (same_place a.edges.now.edges a.second y later those.0 later_at)
    (none_before (λ (z : Edge). MissUnexcused a.excused.now a.pairs.now z y) a.edges.now.edges y.cells a.second c.as_slice-matching-items.result.now those.1 (split_matches a.excused.now a.pairs.now y)
    c.loop-matching.matching-index (omega arith) c.loop-matching.invariant)
