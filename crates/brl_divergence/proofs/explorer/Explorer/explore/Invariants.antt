use Rattle.std.proofs.Common.{◌-◌, ◌<◌, ◌≤◌, ℕ, length}
use Rattle.brl_pairs.specs.declared.step.Step.{Step}
use Rattle.brl_closure.specs.Edges.{IsWalked}
use Rattle.brl_closure.specs.Trail.{AddsPairs, IsActive, TakesStep}
use Rattle.brl_divergence.specs.Found.{AreFollowed, IsOfSplit}
use Rattle.brl_divergence.proofs.explorer.Explorer.explore.Given as goal

abbrev pub invariant-loop-next : goal.invariant-loop-next
invariant-loop-next g l = record {
  active : IsActive g.M.Machine.behaviour l.self.finder.now l.trail;
  adds : AddsPairs (IsOfSplit l.state l.first.place l.second.place (length l.fn.trail.pairs)) l.fn.trail l.trail;
  low : length l.fn.trail.pairs ≤ l.next;
  walked : (n : ℕ) → n < l.next → IsWalked (g.M.Machine.behaviour l.self.finder.now.machine.now) l.trail.states l.trail.pairs n;
  followed : (x y : Step g.row.M-State.Denot) → TakesStep (g.M.Machine.behaviour l.self.finder.now.machine.now) l.trail.states l.state l.first.place x
      → TakesStep (g.M.Machine.behaviour l.self.finder.now.machine.now) l.trail.states l.state l.second.place y → AreFollowed l.trail.states l.trail.pairs x y;
}

abbrev pub decreases-loop-next : goal.decreases-loop-next
decreases-loop-next g l = l.self.finder.now.limit - l.next
