use Rattle.std.proofs.Common.{◌≡◌, All, length, map}
use Rattle.std.specs.List.{sum_by}
use Rattle.brl_closure.specs.Fresh.{IsPartly, part_of}
use Rattle.brl_closure.specs.SearchView.{Stays}
use Rattle.brl_closure.specs.Trail.{Advances}
use Rattle.brl_closure.proofs.search.finder.Finder.number_parts.Given as goal

abbrev pub invariant-loop-place : goal.invariant-loop-place
invariant-loop-place g l = record {
  advances : Advances g.M.Machine.behaviour l.self l.fn.trail l.trail;
  pairs : l.trail.pairs ≡ l.fn.trail.pairs;
  cells : Stays l.fn.cells l.cells;
  partly : All (IsPartly (g.M.Machine.behaviour l.self.machine.now) (g.M.Parted.steps_of l.self.machine.now) l.trail.states l.cells l.number) l.fresh.items;
  same : map part_of l.fresh.items ≡ map part_of l.fn.fresh.items;
}

abbrev pub decreases-loop-place : goal.decreases-loop-place
decreases-loop-place g l = sum_by (λ f. length f.left.items) l.fresh.items
