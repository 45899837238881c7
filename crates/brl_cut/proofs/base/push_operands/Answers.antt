use Rattle.std.proofs.Common.{map}
use Rattle.brl_lines.specs.Views.{line_view}
use Rattle.brl_cut.specs.Files.{edit_view}
use Rattle.brl_cut.proofs.RewriteLemmas.{few-operands-add}
use Rattle.brl_cut.proofs.base.push_operands.Goals as goal

pub returns-in_default : goal.returns-in_default
returns-in_default c = few-operands-add (map edit_view c.args.edits.now.items) c.args.characters.now.entries (line_view c.args.line.now) c.args.operands.now c.in_default.len_below
