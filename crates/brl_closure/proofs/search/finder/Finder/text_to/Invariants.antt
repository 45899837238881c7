use Rattle.std.proofs.Common.{◌≡◌, ◌<◌, Some, slice_get, length}
use Rattle.brl_closure.specs.KnownSteps.{AreKnown}
use Rattle.brl_closure.specs.Path.{IsTextTo}
use Rattle.brl_closure.proofs.search.finder.Finder.text_to.Given as goal

abbrev pub invariant-loop-state : goal.invariant-loop-state
invariant-loop-state g l = record {
  within : l.state < length l.trail.states;
  text : (s : _) → slice_get l.trail.states l.state ≡ Some s → IsTextTo (g.M.Machine.behaviour l.self.machine.now) l.trail.states s l.number l.text.items;
  known : AreKnown (g.M.Machine.behaviour l.self.machine.now) l.trail.states l.known;
}

abbrev pub decreases-loop-state : goal.decreases-loop-state
decreases-loop-state g l = l.state
