use Rattle.std.proofs.Common.{◌+◌, ◌≤◌}
use Rattle.brl_closure.specs.Trail.{Extends}
use Rattle.brl_closure.specs.Worklist.{IsWorking, steps_left}
use Rattle.brl_closure.proofs.search.finder.Finder.run.Given as goal

abbrev pub invariant-loop : goal.invariant-loop
invariant-loop g l = record {
  working : IsWorking g.M.Machine.behaviour g.M.Parted.steps_of l.self l.trail l.worklist;
  extends : Extends l.initial.trail l.trail;
  fewer : steps_left l.self.limit l.trail l.worklist + l.counter ≤ steps_left l.self.limit l.initial.trail l.initial.worklist;
}
