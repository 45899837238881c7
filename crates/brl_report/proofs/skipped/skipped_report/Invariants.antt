use Rattle.std.proofs.Common.{◌≡◌, flat_map, map, string_bytes, take}
use Rattle.brl_lines.specs.Gathered.{left_view}
use Rattle.brl_report.specs.Survey.{skipped_line}
use Rattle.brl_report.proofs.skipped.skipped_report.Given as goal

abbrev pub invariant-loop-left : goal.invariant-loop-left
invariant-loop-left l = string_bytes l.text ≡ flat_map skipped_line (map left_view (take l.left-index l.skipped))
