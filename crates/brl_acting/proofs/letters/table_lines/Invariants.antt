use Rattle.std.proofs.Common.{◌≡◌, map, take}
use Rattle.brl_acting.specs.Letters.{table_line}
use Rattle.brl_acting.specs.Words.{table_line_view}
use Rattle.brl_lines.specs.Views.{line_view}
use Rattle.brl_acting.proofs.letters.table_lines.Given as goal

abbrev pub invariant-loop-line : goal.invariant-loop-line
invariant-loop-line l = map table_line_view l.found.items ≡ map table_line (map line_view (take l.line-index l.lines))
