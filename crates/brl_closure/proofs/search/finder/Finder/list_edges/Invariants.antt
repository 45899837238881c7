use Rattle.std.proofs.Common.{◌≡◌}
use Rattle.brl_pairs.specs.Listed.{AreListedEdges}
use Rattle.brl_closure.specs.SearchView.{Stays}
use Rattle.brl_closure.specs.Trail.{Advances}
use Rattle.brl_closure.proofs.search.finder.Finder.list_edges.Given as goal

abbrev pub invariant-loop-step : goal.invariant-loop-step
invariant-loop-step g l = record {
  advances : Advances g.M.Machine.behaviour l.self l.fn.trail l.trail;
  pairs : l.trail.pairs ≡ l.fn.trail.pairs;
  cells : Stays l.fn.cells l.cells;
  listed : AreListedEdges l.trail.states l.cells l.yielded l.edges.items;
}
