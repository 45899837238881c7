use Rattle.std.proofs.Common.{List, ℕ, subst, subst₂}
use Rattle.std.proofs.lemmas.Result.{IfOk-weaker}
use Rattle.brl_pairs.specs.Sorted.{AreMatches, IsSortedOf}
use Rattle.brl_pairs.specs.declared.sorted.SortedEdge.{SortedEdge}
use Rattle.brl_closure.specs.Sorted.{SortedView}
use Rattle.brl_closure.proofs.LeastRule.{found_of_sorted}
use Rattle.brl_closure.proofs.check.sorted.Sorted.matches.Goals as goal

pub matches-requires : goal.matches-requires
matches-requires c = rw (c.as_slice.ensures.members, c.as_slice-2.ensures.value) c.self.invariant.ascending

pub returns : goal.returns
returns c =
    let s = c.self.inside in
    IfOk-weaker c.matches.result _ _
    (λ found those. found_of_sorted s.cells.now c.args.self.now.edges s.sorted.items (subst (λ (v : SortedView). IsSortedOf s.cells.now v.edges s.sorted.items) c.self.view_is c.self.invariant) c.args.lead.now found.items
    (subst₂ (λ (own : List (List ℕ)) (sorted : List SortedEdge). AreMatches own sorted c.args.lead.now found.items) c.as_slice.ensures.members c.as_slice-2.ensures.value those))
    c.matches.ensures
