use Rattle.std.proofs.Common.{◌<◌, ℕ}
use Rattle.brl_divergence.specs.Found.{AreSettledAt, IsSound, Keeps}
use Rattle.brl_divergence.proofs.explorer.Explorer.settle_state.Given as goal

abbrev pub invariant-loop-second : goal.invariant-loop-second
invariant-loop-second g l = record {
  sound : IsSound g.M.Machine.behaviour l.self.finder.now l.self.expanded.now l.found;
  keeps : Keeps l.fn.found l.found;
  settled : (i j : ℕ) → i < j → j < l.second → AreSettledAt (g.M.Machine.behaviour l.self.finder.now.machine.now) l.found l.state i j;
}
