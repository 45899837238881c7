use Rattle.std.proofs.Common.{ℕ, ◌≤◌}
use Rattle.brl_closure.specs.Diverging.{ComeOf}
use Rattle.brl_closure.specs.KnownSteps.{AreKnown}
use Rattle.brl_closure.specs.Path.{Continues}
use Rattle.brl_closure.proofs.search.finder.Finder.texts_of.Given as goal

abbrev pub invariant-loop-pair : goal.invariant-loop-pair
invariant-loop-pair g l = record {
  continues : Continues (g.M.Machine.behaviour l.self.machine.now) l.trail.states l.trail.pairs l.found l.ahead.items l.behind.items;
  among : (r s from : ℕ) → ComeOf (g.M.Machine.behaviour l.self.machine.now) r s from l.trail → from ≤ l.number → from ≤ l.found;
  known : AreKnown (g.M.Machine.behaviour l.self.machine.now) l.trail.states l.known;
}

abbrev pub decreases-loop-pair : goal.decreases-loop-pair
decreases-loop-pair g l = l.found
