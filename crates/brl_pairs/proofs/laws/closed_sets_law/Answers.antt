use Rattle.brl_pairs.proofs.Closed.{unambiguous_from_closed}
use Rattle.brl_pairs.proofs.laws.closed_sets_law.Goals as goal

pub returns : goal.returns
returns g c closed = unambiguous_from_closed _ _ c.start.ensures.laws closed
