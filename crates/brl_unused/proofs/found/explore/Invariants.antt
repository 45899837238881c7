use Rattle.std.proofs.Common.{◌-◌, ◌≤◌, length}
use Rattle.brl_unused.specs.Exploring.{AreFound}
use Rattle.brl_unused.proofs.found.explore.Given as goal

abbrev pub invariant-loop-alloc : goal.invariant-loop-alloc
invariant-loop-alloc g l = record {
  found : AreFound (g.M.Machine.behaviour l.machine) (g.M.Based.sharing l.machine) l.found;
  few : length l.found.order.items ≤ l.limit;
}

abbrev pub decreases-loop-alloc : goal.decreases-loop-alloc
decreases-loop-alloc g l = l.limit - length l.found.expanded.items
