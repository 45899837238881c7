use Rattle.std.proofs.Common.{◌+◌, ◌≤◌}
use Rattle.brl_divergence.specs.Working.{IsWorking, steps_left}
use Rattle.brl_divergence.proofs.listing.run.Given as goal

abbrev pub invariant-loop : goal.invariant-loop
invariant-loop g l = record {
  working : IsWorking g.M.Machine.behaviour g.M.Parted.steps_of l.finder l.expanded l.parts l.found l.settled;
  fewer : steps_left l.finder.limit l.expanded l.settled + l.counter ≤ steps_left l.finder.limit l.initial.expanded l.initial.settled;
}
