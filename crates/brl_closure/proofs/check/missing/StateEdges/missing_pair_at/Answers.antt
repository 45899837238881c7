use Rattle.std.proofs.Common.{ℕ, IfOk, List, length, ap, arith, subst, ◌∙◌}
use Rattle.std.proofs.lemmas.Result.{IfOk-weaker}
use Rattle.brl_closure.specs.Least.{IsLeastFound}
use Rattle.brl_closure.specs.Steps.{HasOfRule}
use Rattle.brl_closure.proofs.FirstTwo.{kept_in_order, move_of_kept}
use Rattle.brl_closure.proofs.MissingAt.{move_at}
use Rattle.brl_closure.proofs.Numbers.{range_read}
use Rattle.brl_pairs.specs.Body.{NumberPair}
use Rattle.brl_pairs.specs.NumberPairs.{IsMissing}
use Rattle.brl_closure.proofs.check.missing.StateEdges.missing_pair_at.Goals as goal
use Rattle.brl_pairs.proofs.Lists.{read_at}

pub missing_pair-requires : goal.missing_pair-requires
missing_pair-requires g c =
    let a = c.args in
    let q = c.index-as_slice-number.result in
    let q_at = read_at c.as_slice.result.now a.self.now.body.now.pairs a.number q (c.as_slice.ensures.members ∙ c.pairs.ensures) (omega (arith, c.requires.number, ap length c.as_slice.ensures.members, ap length c.pairs.ensures)) c.index-as_slice-number.is in
    let k = c.requires.edges q q_at in
    kept_in_order a.self.now.excused.now k.edges a.self.now.edges.now.edges k.first_two (c.edges_law.ensures a.self.now.body.now.states q.behind k.edges k.are_edges)

pub returns : goal.returns
returns g c =
    let a = c.args in
    let m = g.M.Machine.behaviour a.self.now.machine.now in
    let q = c.index-as_slice-number.result in
    let q_at = read_at c.as_slice.result.now a.self.now.body.now.pairs a.number q (c.as_slice.ensures.members ∙ c.pairs.ensures) (omega (arith, c.requires.number, ap length c.as_slice.ensures.members, ap length c.pairs.ensures)) c.index-as_slice-number.is in
    let range = range_read (length a.self.now.body.now.states) a.self.now.body.now.pairs c.as_slice.result.now (c.as_slice.ensures.members ∙ c.pairs.ensures) c.law.ensures.range.each_pair a.number c.requires.number q c.index-as_slice-number.is in
    let k = c.requires.edges q q_at in
    let in_order = c.edges_law.ensures a.self.now.body.now.states q.behind k.edges k.are_edges in
    IfOk-weaker c.missing_pair.result _ _
    (λ found least. move_at m a.self.now.body.now c.law.ensures.states a.number q q_at k.edges k.are_edges range found (move_of_kept a.self.now.excused.now k.edges a.self.now.edges.now.edges k.first_two in_order a.self.now.body.now.pairs q.ahead q.lead found
    (subst (λ (lead : List ℕ). IsLeastFound (HasOfRule (IsMissing a.self.now.body.now.pairs q.ahead lead) a.self.now.edges.now.edges) found) c.as_slice-2.ensures least)))
    (subst (λ (pairs : List NumberPair). IfOk c.missing_pair.result (IsLeastFound (HasOfRule (IsMissing pairs q.ahead c.as_slice-2.result.now) a.self.now.edges.now.edges))) c.pairs-2.ensures c.missing_pair.ensures)
