use Rattle.std.proofs.Common.{◌≡◌, map, take}
use Rattle.brl_acting.specs.WholeTable.{left_out_place, place_view}
use Rattle.brl_table.specs.Survey.{faulty_line_view}
use Rattle.brl_acting.proofs.whole_table.left_out_places.Given as goal

abbrev pub invariant-loop-faulty : goal.invariant-loop-faulty
invariant-loop-faulty l = map place_view l.places.items ≡ map left_out_place (map faulty_line_view (take l.faulty-index l.left_out))
