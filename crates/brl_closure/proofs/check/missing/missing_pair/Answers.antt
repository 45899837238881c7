use Rattle.std.proofs.Common.{length, sym, subst, arith}
use Rattle.brl_closure.specs.Sorted.{AreFound}
use Rattle.brl_closure.proofs.LeastRule.{least_of_all, missing_matches, named_within, none_before, none_of_all, read_least, read_without, refuted}
use Rattle.brl_pairs.specs.NumberPairs.{IsMissing}
use Rattle.brl_closure.proofs.check.missing.missing_pair.Goals.{After-as_slice-matching-items}
use Rattle.brl_closure.proofs.check.missing.missing_pair.Goals as goal

-- the edges that match the lead
found : (c : After-as_slice-matching-items) → AreFound c.args.edges.now.edges c.args.lead.now (length c.args.edges.now.edges) c.as_slice-matching-items.result.now
found c = subst (AreFound c.args.edges.now.edges c.args.lead.now (length c.args.edges.now.edges)) (sym c.as_slice-matching-items.ensures.value) c.in_ok-found.ensures

pub loop-matching-init : goal.loop-matching-init
loop-matching-init c = λ k x e below. absurd (omega arith)

pub edge-requires : goal.edge-requires
edge-requires c =
    let a = c.args in
    named_within a.edges.now.edges a.lead.now (length a.edges.now.edges) c.as_slice-matching-items.result.now (found (goal.at.edge-requires c).After-as_slice-matching-items) c.loop-matching.matching-index c.loop-matching-test.true

pub returns-then-branch : goal.returns-then-branch
returns-then-branch c =
    let a = c.args in
    let e = c.in_ok-edge.edge in
    least_of_all (IsMissing a.pairs.now a.ahead a.lead.now) a.edges.now.edges e.rule
    (read_least (IsMissing a.pairs.now a.ahead a.lead.now) a.edges.now.edges a.lead.now (length a.edges.now.edges) c.as_slice-matching-items.result.now (found (goal.at.returns-then-branch c).After-as_slice-matching-items) (missing_matches a.pairs.now a.ahead a.lead.now)
    c.loop-matching.matching-index c.loop-matching-test.true e c.in_ok-edge.ensures c.loop-matching.invariant
    c.requires (c.in_ok-is_missing.ensures.0 c.if-branch.true))

pub loop-matching-preserved : goal.loop-matching-preserved
loop-matching-preserved c =
    let a = c.args in
    read_without (IsMissing a.pairs.now a.ahead a.lead.now) a.edges.now.edges a.lead.now (length a.edges.now.edges) c.as_slice-matching-items.result.now (found (goal.at.loop-matching-preserved c).After-as_slice-matching-items) (missing_matches a.pairs.now a.ahead a.lead.now)
    c.loop-matching.matching-index c.loop-matching-test.true c.in_ok-edge.edge c.in_ok-edge.ensures c.loop-matching.invariant
    (refuted c.in_ok-is_missing.field-0 c.in_ok-is_missing.ensures c.if-branch.false)

pub returns : goal.returns
returns c =
    let a = c.args in
    none_of_all (IsMissing a.pairs.now a.ahead a.lead.now) a.edges.now.edges
    (none_before (IsMissing a.pairs.now a.ahead a.lead.now) a.edges.now.edges a.lead.now (length a.edges.now.edges) c.as_slice-matching-items.result.now (found (goal.at.returns c).After-as_slice-matching-items) (missing_matches a.pairs.now a.ahead a.lead.now)
    c.loop-matching.matching-index (omega arith) c.loop-matching.invariant)
