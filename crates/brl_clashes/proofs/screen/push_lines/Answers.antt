use Rattle.std.proofs.Common.{string_bytes}
use Rattle.brl_clashes.specs.Screen.{kind_line}
use Rattle.brl_clashes.proofs.Lines.{one_more}
use Rattle.brl_clashes.proofs.screen.push_lines.Goals as goal

pub loop-line-preserved : goal.loop-line-preserved
loop-line-preserved c =
    one_more (kind_line c.args.kinds.now) c.args.lines.now c.loop-line.line-index c.line-item.result (string_bytes c.args.text.now) (string_bytes c.loop-line.text) (string_bytes c.push_line.new.text)
    c.loop-line-test.true c.line-item.is c.loop-line.invariant c.in_ok-push_line.ensures
