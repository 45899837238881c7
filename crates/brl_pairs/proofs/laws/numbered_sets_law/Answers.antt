use Rattle.brl_pairs.specs.Pairs.{numbered}
use Rattle.brl_pairs.proofs.Closed.{unambiguous_from_closed}
use Rattle.brl_pairs.proofs.laws.numbered_sets_law.Goals as goal

pub returns : goal.returns
returns g c states pairs closed = unambiguous_from_closed _ (numbered states pairs) c.start.ensures.laws closed
