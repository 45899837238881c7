use Rattle.std.proofs.Common.{◌∙◌, sym}
use Rattle.brl_stream.proofs.OutputLemmas.{marks_of-more}
use Rattle.brl_stream.proofs.output.push_marks.Goals as goal

pub loop-cell-preserved : goal.loop-cell-preserved
loop-cell-preserved c =
    sym (marks_of-more c.args.form c.args.cells.now c.loop-cell.cell-index c.cell-item.result c.loop-cell.output.items c.push_mark.new.output.items c.loop-cell-test.true c.cell-item.is c.in_ok-push_mark.ensures)
    ∙ c.loop-cell.invariant
