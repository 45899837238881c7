use Rattle.std.proofs.Common.{◌≡◌, map, take}
use Rattle.brl_acting.specs.WholeTable.{acting_view, taken_lines}
use Rattle.brl_acting.specs.Words.{table_line_view}
use Rattle.brl_acting.proofs.whole_table.lines_at.Given as goal

abbrev pub invariant-loop-place : goal.invariant-loop-place
invariant-loop-place l = map acting_view l.found.items ≡ taken_lines (map table_line_view l.lines) (take l.place-index l.places)
