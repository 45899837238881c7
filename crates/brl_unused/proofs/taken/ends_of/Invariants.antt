use Rattle.std.proofs.Common.{◌≡◌, map, take}
use Rattle.brl_unused.proofs.taken.ends_of.Given as goal

abbrev pub invariant-loop-state : goal.invariant-loop-state
invariant-loop-state g l = l.ends.items ≡ map (g.M.Machine.behaviour l.machine).ends (take l.state-index l.states)
