use Rattle.std.proofs.Common.{◌∙◌}
use Rattle.brl_dues.proofs.letter.may_come.Goals as goal

pub returns : goal.returns
returns c = c.all_let_in.ensures ∙ c.needs_of.ensures c.args.table.now c.args.character
