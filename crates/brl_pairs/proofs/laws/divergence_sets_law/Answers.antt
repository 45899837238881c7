use Rattle.brl_pairs.proofs.Divergence.{closed_from_divergences}
use Rattle.brl_pairs.proofs.laws.divergence_sets_law.Goals as goal

pub returns : goal.returns
returns g c rules each = closed_from_divergences _ rules c.start.ensures.laws each
