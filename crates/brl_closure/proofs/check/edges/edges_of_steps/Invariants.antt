use Rattle.brl_closure.specs.SearchView.{Stays}
use Rattle.brl_pairs.specs.Listed.{AreListedEdges}
use Rattle.brl_closure.proofs.check.edges.edges_of_steps.Given as goal

abbrev pub invariant-loop-step : goal.invariant-loop-step
invariant-loop-step g l = record {
  cells : Stays l.fn.cells l.cells;
  listed : AreListedEdges l.body.states l.cells l.yielded l.edges.items;
}
