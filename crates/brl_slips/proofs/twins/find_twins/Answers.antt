use Rattle.brl_slips.proofs.Ranking.{twins_in_order}
use Rattle.brl_slips.proofs.twins.find_twins.Goals as goal

pub returns : goal.returns
returns c = twins_in_order c.args.lexicon.now c.in_ok-twins.twins.items c.in_order.result.items c.in_ok-twins.ensures c.in_order.ensures.moved c.in_order.ensures.sorted
