use Rattle.std.proofs.Common.{take}
use Rattle.brl_contexts.specs.Forms.{AreGates}
use Rattle.brl_contexts.proofs.forms.gates_of.Given as goal

abbrev pub invariant-loop-chars : goal.invariant-loop-chars
invariant-loop-chars g l = AreGates (g.B.Based.sharing l.machine).gate (take l.chars-index l.reads) l.gates.items l.places.items
