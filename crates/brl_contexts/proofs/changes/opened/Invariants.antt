use Rattle.std.proofs.Common.{◌≡◌, map, take}
use Rattle.brl_contexts.proofs.changes.opened.Given as goal

abbrev pub invariant-loop-gate : goal.invariant-loop-gate
invariant-loop-gate g l = l.opens.items ≡ map ((g.B.Based.sharing l.machine).opens l.state) (take l.gate-index l.gates)
