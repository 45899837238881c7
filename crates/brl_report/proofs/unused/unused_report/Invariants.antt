use Rattle.std.proofs.Common.{◌≡◌, flat_map, map, string_bytes, take}
use Rattle.brl_lines.specs.Views.{line_view}
use Rattle.brl_report.specs.Unused.{unused_line}
use Rattle.brl_report.proofs.unused.unused_report.Given as goal

-- the lines of the numbers so far
abbrev pub invariant-loop-number : goal.invariant-loop-number
invariant-loop-number l = string_bytes l.text ≡ flat_map (unused_line l.table (map line_view l.fn.lines)) (take l.number-index l.numbers)
