use Rattle.std.proofs.Common.{◌≡◌, ℕ, ◌<◌, List, length, Some, refl, slice_get, get_or, sym, arith}
use Rattle.std.proofs.lemmas.Option.{slice_get-get_or}
use Rattle.std.proofs.lemmas.Result.{on_ok_weaker}
use Rattle.brl_pairs.specs.Listed.{edge_of, edges_with}
use Rattle.brl_pairs.specs.declared.edge.Edge.{Edge}
use Rattle.brl_pairs.specs.declared.edge.ListedEdge.{ListedEdge}
use Rattle.brl_pairs.proofs.Lists.{mapped_at}
use Rattle.brl_closure.proofs.Edges.{fits_splitting, explains_split, split_followed}
use Rattle.brl_closure.proofs.search.finder.Finder.find_split.Goals as goal

-- the edge at a place, with its cells
abbrev read : List (List ℕ) → List ListedEdge → ℕ → Edge
read cells edges place = edge_of cells (get_or edges place (record { rule = 0; cells = 0; next = 0 }))

read_is : (cells : List (List ℕ)) (edges : List ListedEdge) (place : ℕ) → place < length edges → slice_get (edges_with cells edges) place ≡ Some (read cells edges place)
read_is cells edges place within = mapped_at (edge_of cells) edges place _ (slice_get-get_or edges place (record { rule = 0; cells = 0; next = 0 }) within)

pub follow-requires-clause-fits : goal.follow-requires-clause-fits
follow-requires-clause-fits g c =
    let a = c.args in
    let edges = edges_with a.state.now.cells.now a.state.now.edges.now in
    rw (c.cells_at-lead.ensures, c.cells_at-cells.ensures)
    (fits_splitting (g.M.Machine.behaviour a.self.now.machine.now) c.requires.active.laws a.trail.now.states a.state.now.number edges c.requires.edges a.first a.second (read a.state.now.cells.now a.state.now.edges.now a.first) (read a.state.now.cells.now a.state.now.edges.now a.second)
    (read_is a.state.now.cells.now a.state.now.edges.now a.first (omega (arith, c.requires.in_order, c.requires.within))) (read_is a.state.now.cells.now a.state.now.edges.now a.second c.requires.within))

pub follow-requires-clause-explained : goal.follow-requires-clause-explained
follow-requires-clause-explained g c =
    let a = c.args in
    let edges = edges_with a.state.now.cells.now a.state.now.edges.now in
    rw (c.cells_at-lead.ensures, c.cells_at-cells.ensures)
    (explains_split (g.M.Machine.behaviour a.self.now.machine.now) c.requires.active.laws a.trail.now.states a.trail.now.pairs a.state.now.number edges c.requires.edges a.first a.second (read a.state.now.cells.now a.state.now.edges.now a.first) (read a.state.now.cells.now a.state.now.edges.now a.second)
    c.requires.in_order (read_is a.state.now.cells.now a.state.now.edges.now a.first (omega (arith, c.requires.in_order, c.requires.within))) (read_is a.state.now.cells.now a.state.now.edges.now a.second c.requires.within))

pub returns-clause-followed : goal.returns-clause-followed
returns-clause-followed g c =
    let a = c.args in
    let edges = edges_with a.state.now.cells.now a.state.now.edges.now in
    on_ok_weaker c.follow.result
    (λ followed x y first second. split_followed c.follow.new.trail.pairs edges a.first a.second (read a.state.now.cells.now a.state.now.edges.now a.first) (read a.state.now.cells.now a.state.now.edges.now a.second)
    (read_is a.state.now.cells.now a.state.now.edges.now a.first (omega (arith, c.requires.in_order, c.requires.within))) (read_is a.state.now.cells.now a.state.now.edges.now a.second c.requires.within) c.cells_at-lead.result.now c.cells_at-lead.ensures
    (followed (read a.state.now.cells.now a.state.now.edges.now a.second) refl (sym c.cells_at-cells.ensures)) x y first second)
    c.follow.ensures.followed
