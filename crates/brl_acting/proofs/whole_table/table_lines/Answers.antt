use Rattle.std.proofs.Common.{map}
use Rattle.brl_lines.specs.Views.{line_view}
use Rattle.brl_acting.specs.WholeTable.{place_view, table_line}
use Rattle.brl_acting.specs.Words.{table_line_view}
use Rattle.brl_acting.proofs.Mapped.{mapped_more}
use Rattle.brl_acting.proofs.whole_table.table_lines.Goals as goal

pub loop-line-preserved : goal.loop-line-preserved
loop-line-preserved c =
    let left_out = map place_view c.args.left_out.now in
    let continued = map place_view c.args.continued.now in
    mapped_more table_line_view (table_line left_out continued) line_view c.args.lines.now c.loop-line.line-index c.line-item.result c.loop-line.found.items c.push.new.self.items c.table_line.result
    c.loop-line-test.true c.line-item.is c.loop-line.invariant c.in_ok-push.ensures.items (c.table_line.ensures left_out continued c.in_ok-left_out.ensures c.in_ok-continued.ensures)
