use Rattle.std.proofs.Common.{map, take}
use Rattle.brl_acting.specs.WholeTable.{Holds, place_view}
use Rattle.brl_acting.proofs.whole_table.set_of.Given as goal

abbrev pub invariant-loop-place : goal.invariant-loop-place
invariant-loop-place l = Holds (map place_view (take l.place-index l.places)) l.set.keys
