use Rattle.std.proofs.Common.{[], map, take}
use Rattle.brl_dues.specs.Carry.{carry}
use Rattle.brl_dues.proofs.Adding.{HasAdded}
use Rattle.brl_dues.proofs.carry.dues_past.Given as goal

abbrev pub invariant-loop-due : goal.invariant-loop-due
invariant-loop-due l = HasAdded (map (carry l.table l.past) (take l.due-index l.dues)) [] l.left.items
