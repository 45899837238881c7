use Rattle.brl_table.proofs.GoodLines.{good-lines}
use Rattle.brl_table.proofs.laws.good_lines_law.Goals as goal

pub returns : goal.returns
returns c = good-lines c.signs_law.ensures.same
