use Rattle.brl_pairs.proofs.Closed.{paths_differ_from_closed, texts_differ_from_closed}
use Rattle.brl_pairs.proofs.laws.exchange_law.Goals as goal

pub returns-clause-paths : goal.returns-clause-paths
returns-clause-paths g c exchanged rules closed = paths_differ_from_closed _ _ c.start.ensures.laws exchanged rules closed

pub returns-clause-texts : goal.returns-clause-texts
returns-clause-texts g c exchanged rules closed = texts_differ_from_closed _ _ c.start.ensures.laws exchanged rules closed
