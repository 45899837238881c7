use Rattle.std.proofs.Common.{◌≡◌, take}
use Rattle.std.specs.Option.{option_map_or}
use Rattle.brl_report.specs.Rows.{width_of, widest}
use Rattle.brl_report.proofs.row.widths_of.Given as goal

abbrev pub invariant-loop-row : goal.invariant-loop-row
invariant-loop-row l = record {
  characters : l.characters ≡ widest (λ row. width_of row.characters) (take l.row-index l.rows);
  indicators : l.indicators ≡ widest (λ row. option_map_or width_of row.indicators 0) (take l.row-index l.rows);
  dots : l.dots ≡ widest (λ row. width_of row.dots) (take l.row-index l.rows);
}
