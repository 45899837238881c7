use Rattle.std.proofs.Common.{Bool, List, ℕ, ap, length, slice_get, sym, ◌∙◌, ◌≡◌, subst}
use Rattle.brl_pairs.specs.Edges.{AreEdges}
use Rattle.brl_pairs.specs.Listed.{HaveCells, edges_with}
use Rattle.brl_pairs.specs.Shared.{AreShared}
use Rattle.brl_pairs.specs.Sorted.{IsSortedOf}
use Rattle.brl_pairs.specs.declared.edge.ListedEdge.{ListedEdge}
use Rattle.brl_pairs.specs.declared.sorted.SortedEdge.{SortedEdge}
use Rattle.brl_pairs.proofs.ListedLaws.{edges_of_state, have_cells}
use Rattle.brl_closure.specs.Edges.{AreOfExpanded}
use Rattle.brl_closure.specs.SearchView.{Stays}
use Rattle.brl_closure.proofs.Edges.{edges_more, expanded_more, kept_or_none_more}
use Rattle.brl_closure.proofs.Additions.{advances_trans}
use Rattle.brl_closure.proofs.Fresh.{kept_more}
use Rattle.brl_closure.proofs.SharedSplits.{of_expanded, shared_followed}
use Rattle.brl_closure.proofs.search.finder.Finder.expand.Goals as goal

pub sort_edges-requires : goal.sort_edges-requires
sort_edges-requires g c =
    subst (λ (own : List (List ℕ)). HaveCells own c.as_slice.result.now) (sym c.rank.ensures)
    (subst (λ (edges : List ListedEdge). HaveCells c.find_edges.new.cells edges) (sym c.as_slice.ensures.value)
    (have_cells (g.M.Machine.behaviour c.args.self.now.machine.now) c.find_edges.new.trail.states c.find_edges.new.cells c.args.number c.in_ok-edges.edges.items c.in_ok-edges.ensures.edges))

pub find_new_splits-requires-clause-edges : goal.find_new_splits-requires-clause-edges
find_new_splits-requires-clause-edges g c =
    let m = g.M.Machine.behaviour c.args.self.now.machine.now in
    subst (λ (own : List (List ℕ)). AreEdges m c.find_edges.new.trail.states c.args.number (edges_with own c.as_slice-6.result.now)) (sym (c.as_slice-kept.ensures.members ∙ c.rank.ensures))
    (subst (λ (edges : List ListedEdge). AreEdges m c.find_edges.new.trail.states c.args.number (edges_with c.find_edges.new.cells edges)) (sym c.as_slice-6.ensures.value)
    (edges_of_state m c.find_edges.new.trail.states c.find_edges.new.cells c.args.number c.in_ok-edges.edges.items c.in_ok-edges.ensures.edges))

pub find_new_splits-requires-clause-sorted : goal.find_new_splits-requires-clause-sorted
find_new_splits-requires-clause-sorted g c =
    let own = c.as_slice-kept.result.now in
    subst (λ (sorted : List SortedEdge). IsSortedOf own (edges_with own c.as_slice-6.result.now) sorted) (sym c.as_slice-7.ensures.value)
    (subst (λ (edges : List ListedEdge). IsSortedOf own (edges_with own edges) c.in_ok-sorted.sorted.items) (c.as_slice.ensures.value ∙ sym c.as_slice-6.ensures.value)
    (subst (λ (cells : List (List ℕ)). IsSortedOf cells (edges_with cells c.as_slice.result.now) c.in_ok-sorted.sorted.items) (sym c.as_slice-kept.ensures.members) c.in_ok-sorted.ensures))

pub find_new_splits-requires-clause-count : goal.find_new_splits-requires-clause-count
find_new_splits-requires-clause-count g c =
    ap length c.as_slice-8.ensures.value ∙ c.in_ok-shared.ensures.count ∙ ap length (c.as_slice-4.ensures.value ∙ sym c.as_slice-7.ensures.value)

pub find_new_splits-requires-clause-known : goal.find_new_splits-requires-clause-known
find_new_splits-requires-clause-known g c =
    let m = g.M.Machine.behaviour c.args.self.now.machine.now in
    let states = c.find_edges.new.trail.states in
    let pairs = c.find_edges.new.trail.pairs in
    let own = c.as_slice-kept.result.now in
    let edges = edges_with own c.as_slice-6.result.now in
    let moved = c.in_ok-edges.ensures.advances.1 in
    let more : Stays c.args.cells.now own = λ k cells at. ap (λ (l : List (List ℕ)). slice_get l k) (c.as_slice-kept.ensures.members ∙ c.rank.ensures) ∙ c.in_ok-edges.ensures.cells k cells at in
    let of = of_expanded m states pairs own c.args.expanded.now
    (kept_or_none_more m c.args.trail.now.states states c.args.cells.now own moved.states more c.args.expanded.now c.requires.kept)
    (λ k less. expanded_more m c.args.trail.now.states states c.args.trail.now.pairs pairs moved.states moved.pairs k (c.requires.done k less)) c.likely.result in
    let others : AreOfExpanded m states pairs own c.edges_at-others.result.now = subst (AreOfExpanded m states pairs own) (sym c.edges_at-others.ensures) of in
    let sorted = find_new_splits-requires-clause-sorted g c in
    let shared : AreShared c.as_slice-7.result.now c.edges_at-others.result.now c.as_slice-8.result.now =
    subst (λ (l : List SortedEdge). AreShared l c.edges_at-others.result.now c.as_slice-8.result.now) (c.as_slice-4.ensures.value ∙ sym c.as_slice-7.ensures.value)
    (subst (AreShared c.as_slice-4.result.now c.edges_at-others.result.now) (sym c.as_slice-8.ensures.value) c.in_ok-shared.ensures) in
    shared_followed m states c.as_slice-5.ensures.one_number pairs own edges c.as_slice-7.result.now c.edges_at-others.result.now sorted c.as_slice-8.result.now shared others

pub returns-clause-edges : goal.returns-clause-edges
returns-clause-edges g c =
    let m = g.M.Machine.behaviour c.args.self.now.machine.now in
    let own = c.rank.new.self in
    let edges = edges_with own c.in_ok-edges.edges.items in
    record {
      edges = edges;
      are_edges = edges_more m c.find_edges.new.trail.states c.find_new_splits.new.trail.states c.in_ok-find_new_splits.ensures.advances.1.states c.args.number edges
          (subst (λ (cells : List (List ℕ)). AreEdges m c.find_edges.new.trail.states c.args.number (edges_with cells c.in_ok-edges.edges.items)) (sym c.rank.ensures)
          (edges_of_state m c.find_edges.new.trail.states c.find_edges.new.cells c.args.number c.in_ok-edges.edges.items c.in_ok-edges.ensures.edges));
      sorted_of = subst (λ (listed : List ListedEdge). IsSortedOf own (edges_with own listed) c.in_ok-sorted.sorted.items) c.as_slice.ensures.value c.in_ok-sorted.ensures;
    }

pub returns-clause-parts : goal.returns-clause-parts
returns-clause-parts g c =
    kept_more (g.M.Parted.steps_of c.args.self.now.machine.now) c.find_edges.new.trail.states c.find_new_splits.new.trail.states c.in_ok-find_new_splits.ensures.advances.1.states c.find_edges.new.cells c.rank.new.self
    (λ k own at. ap (λ (cells : List (List ℕ)). slice_get cells k) c.rank.ensures ∙ at) c.find_edges.new.parts c.in_ok-edges.ensures.parts

pub returns-clause-advances : goal.returns-clause-advances
returns-clause-advances g c =
    advances_trans g.M.Machine.behaviour c.args.self.now c.args.trail.now c.find_edges.new.trail c.find_new_splits.new.trail c.in_ok-edges.ensures.advances c.in_ok-find_new_splits.ensures.advances
