use Rattle.std.proofs.Common.{not}
use Rattle.brl_lines.specs.Views.{line_view}
use Rattle.brl_acting.proofs.whole_table.table_line.Goals as goal

pub returns : goal.returns
returns c = λ left others holds hold j. record {
  line = line_view c.args.line.now;
  kept = not (c.has_line.ensures left holds j);
  continued = c.has_line-2.ensures others hold j;
}
