use Rattle.std.proofs.Common.{◌≡◌, ◌++◌, map, take}
use Rattle.brl_acting.specs.WholeTable.{missing_lines}
use Rattle.brl_lines.specs.Gathered.{left_view}
use Rattle.brl_lines.specs.Views.{line_view}
use Rattle.brl_acting.proofs.whole_table.push_missing.Given as goal

abbrev pub invariant-loop-left : goal.invariant-loop-left
invariant-loop-left l = map line_view l.lines.items ≡ map line_view l.fn.lines.items ++ missing_lines (map left_view (take l.left-index l.left_out))
