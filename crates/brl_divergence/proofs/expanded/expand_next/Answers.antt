use Rattle.std.proofs.Common.{◌≡◌, ◌∷◌, [], ◌∙◌, List, ℕ, length, map, refl, slice_get, sym, ap, subst, arith}
use Rattle.brl_pairs.specs.Edges.{AreEdges}
use Rattle.brl_pairs.specs.Listed.{HaveCells, edges_with}
use Rattle.brl_pairs.specs.Sorted.{IsSortedOf}
use Rattle.brl_pairs.specs.declared.edge.ListedEdge.{ListedEdge}
use Rattle.brl_parts.specs.Parts.{AreKeptParts}
use Rattle.brl_pairs.proofs.ListedLaws.{edges_of_state, have_cells}
use Rattle.brl_divergence.specs.Expanded.{rules_of_edges}
use Rattle.brl_divergence.proofs.Steps.{one_expanded}
use Rattle.brl_divergence.proofs.expanded.expand_next.Goals as goal

-- edges have the same rules with their cells
same_rules : (cells : List (List ℕ)) (edges : List ListedEdge) → map (λ (e : ListedEdge). e.rule) edges ≡ rules_of_edges (edges_with cells edges)
same_rules cells [] = refl
same_rules cells (e ∷ edges) = ap (λ l. e.rule ∷ l) (same_rules cells edges)

pub sort_edges-requires : goal.sort_edges-requires
sort_edges-requires g c =
    let m = g.M.Machine.behaviour c.args.finder.now.machine.now in
    subst (λ (own : List (List ℕ)). HaveCells own c.as_slice.result.now) (sym c.rank.ensures)
    (subst (λ (edges : List ListedEdge). HaveCells c.find_edges.new.cells edges) (sym c.as_slice.ensures.value)
    (have_cells m c.find_edges.new.trail.states c.find_edges.new.cells c.len-number.result c.in_ok-edges.edges.items c.in_ok-edges.ensures.edges))

pub returns-clause-expanded : goal.returns-clause-expanded
returns-clause-expanded g c =
    let m = g.M.Machine.behaviour c.args.finder.now.machine.now in
    let e = c.args.expanded.now in
    let u = c.find_edges.new.trail in
    let cells = c.rank.new.self in
    let edges = edges_with cells c.in_ok-edges.edges.items in
    let count : c.len-number.result ≡ length e.edges.items = omega (arith, c.len-number.ensures, e.edges.ok.0) in
    one_expanded m c.args.trail.now.states u.states e _ c.in_ok-sorted.sorted c.in_ok-rules.rules c.in_ok-edges.ensures.advances.1.states (λ k own there. ap (λ (l : List (List ℕ)). slice_get l k) c.rank.ensures ∙ c.in_ok-edges.ensures.cells k own there) c.in_ok-push.ensures.items c.in_ok-push-2.ensures.items
    (record {
      edges = edges;
      are_edges = subst (λ (n : ℕ). AreEdges m u.states n edges) count
          (subst (λ (own : List (List ℕ)). AreEdges m u.states c.len-number.result (edges_with own c.in_ok-edges.edges.items)) (sym c.rank.ensures)
          (edges_of_state m u.states c.find_edges.new.cells c.len-number.result c.in_ok-edges.edges.items c.in_ok-edges.ensures.edges));
      sorted_of = subst (λ (listed : List ListedEdge). IsSortedOf cells (edges_with cells listed) c.in_ok-sorted.sorted.items) c.as_slice.ensures.value c.in_ok-sorted.ensures;
      rules_of = c.in_ok-rules.ensures ∙ ap (map (λ (x : ListedEdge). x.rule)) c.as_slice-2.ensures.value ∙ same_rules cells c.in_ok-edges.edges.items;
    })
    c.requires.expanded

pub returns-clause-parts : goal.returns-clause-parts
returns-clause-parts g c =
    subst (λ (own : List (List ℕ)). AreKeptParts (g.M.Parted.steps_of c.args.finder.now.machine.now) c.find_edges.new.trail.states own c.find_edges.new.parts) (sym c.rank.ensures) c.in_ok-edges.ensures.parts
