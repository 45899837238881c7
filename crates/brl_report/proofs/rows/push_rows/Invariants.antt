use Rattle.std.proofs.Common.{◌≡◌, ◌++◌, take, string_bytes, flat_map}
use Rattle.brl_report.specs.Rows.{row_line}
use Rattle.brl_report.proofs.rows.push_rows.Given as goal

abbrev pub invariant-loop-row : goal.invariant-loop-row
invariant-loop-row l = string_bytes l.text ≡ string_bytes l.fn.text ++ flat_map (row_line l.widths) (take l.row-index l.rows)
