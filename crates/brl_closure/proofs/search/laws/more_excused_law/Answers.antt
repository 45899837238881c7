use Rattle.brl_closure.proofs.MoreExcused.{closed_with_more}
use Rattle.brl_closure.proofs.search.laws.more_excused_law.Goals as goal

pub returns : goal.returns
returns g c excused more body all closed = closed_with_more excused more all _ body closed
