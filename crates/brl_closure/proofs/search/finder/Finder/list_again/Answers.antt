use Rattle.std.proofs.Common.{List, ℕ, ap, slice_get, sym, ◌∙◌, subst}
use Rattle.brl_pairs.specs.Edges.{AreEdges}
use Rattle.brl_pairs.specs.Listed.{HaveCells, edges_with}
use Rattle.brl_pairs.specs.Sorted.{IsSortedOf}
use Rattle.brl_pairs.specs.declared.edge.ListedEdge.{ListedEdge}
use Rattle.brl_pairs.proofs.ListedLaws.{edges_of_state, have_cells}
use Rattle.brl_closure.proofs.Fresh.{kept_more}
use Rattle.brl_closure.proofs.search.finder.Finder.list_again.Goals as goal

pub sort_edges-requires : goal.sort_edges-requires
sort_edges-requires g c =
    subst (λ (own : List (List ℕ)). HaveCells own c.as_slice.result.now) (sym c.rank.ensures)
    (subst (λ (edges : List ListedEdge). HaveCells c.find_edges.new.cells edges) (sym c.as_slice.ensures.value)
    (have_cells (g.M.Machine.behaviour c.args.self.now.machine.now) c.find_edges.new.trail.states c.find_edges.new.cells c.args.number c.in_ok-edges.edges.items c.in_ok-edges.ensures.edges))

pub returns-clause-edges : goal.returns-clause-edges
returns-clause-edges g c =
    let m = g.M.Machine.behaviour c.args.self.now.machine.now in
    let own = c.rank.new.self in
    record {
      edges = edges_with own c.in_ok-edges.edges.items;
      are_edges = subst (λ (cells : List (List ℕ)). AreEdges m c.find_edges.new.trail.states c.args.number (edges_with cells c.in_ok-edges.edges.items)) (sym c.rank.ensures)
          (edges_of_state m c.find_edges.new.trail.states c.find_edges.new.cells c.args.number c.in_ok-edges.edges.items c.in_ok-edges.ensures.edges);
      sorted_of = subst (λ (listed : List ListedEdge). IsSortedOf own (edges_with own listed) c.in_ok-sorted.sorted.items) c.as_slice.ensures.value c.in_ok-sorted.ensures;
    }

pub returns-clause-parts : goal.returns-clause-parts
returns-clause-parts g c =
    kept_more (g.M.Parted.steps_of c.args.self.now.machine.now) c.find_edges.new.trail.states c.find_edges.new.trail.states (λ k s at. at) c.find_edges.new.cells c.rank.new.self
    (λ k own at. ap (λ (cells : List (List ℕ)). slice_get cells k) c.rank.ensures ∙ at) c.find_edges.new.parts c.in_ok-edges.ensures.parts
