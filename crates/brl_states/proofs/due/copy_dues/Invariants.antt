use Rattle.std.proofs.Common.{◌≡◌, take}
use Rattle.brl_states.proofs.due.copy_dues.Given as goal

abbrev pub invariant-loop-due : goal.invariant-loop-due
invariant-loop-due l = l.copies.items ≡ take l.due-index l.dues
