use Rattle.brl_parts.specs.Parts.{AreKeptParts}
use Rattle.brl_closure.specs.Listing.{AreNumbersOf}
use Rattle.brl_closure.specs.SearchView.{Stays}
use Rattle.brl_closure.proofs.check.edges.numbers_of_parts.Given as goal

abbrev pub invariant-loop-part : goal.invariant-loop-part
invariant-loop-part g l = record {
  kept : AreKeptParts (g.M.Parted.steps_of l.machine) l.body.states l.kept.cells l.kept.parts;
  cells : Stays l.fn.kept.cells l.kept.cells;
  numbers : AreNumbersOf l.kept.parts.parts l.yielded l.numbers.items;
}
