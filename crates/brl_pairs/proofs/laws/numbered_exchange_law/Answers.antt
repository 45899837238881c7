use Rattle.brl_pairs.specs.Pairs.{numbered}
use Rattle.brl_pairs.proofs.Closed.{paths_differ_from_closed, texts_differ_from_closed}
use Rattle.brl_pairs.proofs.laws.numbered_exchange_law.Goals as goal

pub returns-clause-paths : goal.returns-clause-paths
returns-clause-paths g c exchanged rules states pairs closed = paths_differ_from_closed _ (numbered states pairs) c.start.ensures.laws exchanged rules closed

pub returns-clause-texts : goal.returns-clause-texts
returns-clause-texts g c exchanged rules states pairs closed = texts_differ_from_closed _ (numbered states pairs) c.start.ensures.laws exchanged rules closed
