use Rattle.std.proofs.Common.{◌≡◌, map, take}
use Rattle.brl_acting.specs.WholeTable.{acting_view}
use Rattle.brl_lines.specs.Views.{location_view}
use Rattle.brl_tool.specs.Acting.{left_out_places}
use Rattle.brl_tool.proofs.acting.left_out_places.Given as goal

abbrev pub invariant-loop-line : goal.invariant-loop-line
invariant-loop-line l = map location_view l.places.items ≡ left_out_places (map acting_view (take l.line-index l.lines))
