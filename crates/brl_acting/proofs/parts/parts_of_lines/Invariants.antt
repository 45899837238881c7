use Rattle.std.proofs.Common.{◌≡◌, map, take}
use Rattle.brl_acting.specs.PartsViews.{parts_view}
use Rattle.brl_acting.specs.Words.{parts_of, table_line_view}
use Rattle.brl_acting.proofs.parts.parts_of_lines.Given as goal

abbrev pub invariant-loop-line : goal.invariant-loop-line
invariant-loop-line l = map parts_view l.parts.items ≡ map parts_of (map table_line_view (take l.line-index l.lines))
