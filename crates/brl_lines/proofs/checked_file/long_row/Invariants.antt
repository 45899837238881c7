use Rattle.std.proofs.Common.{◌≡◌, length, ◌+◌, ◌-◌, ◌≤◌}
use Rattle.std.specs.List.{position_from}
use Rattle.std.specs.Str.{IsCharBoundary}
use Rattle.brl_lines.specs.Lines.{is_long, long_row}
use Rattle.brl_lines.specs.Rows.{piece, rows}
use Rattle.brl_lines.proofs.checked_file.long_row.Given as goal

abbrev pub invariant-loop-at : goal.invariant-loop-at
invariant-loop-at l = record {
  boundary : IsCharBoundary l.text l.at;
  within : l.at ≤ length l.text;
  few : l.number ≤ l.at + 1;
  same : position_from is_long l.number (rows (piece l.text l.at (length l.text))) ≡ long_row l.text;
}

abbrev pub decreases-loop-at : goal.decreases-loop-at
decreases-loop-at l = length l.text - l.at
