use Rattle.brl_contexts.proofs.Found.{from_met, into_met}
use Rattle.brl_contexts.proofs.laws.met_law.Goals as goal

pub returns : goal.returns
returns c bars reads numbers x = (from_met bars reads numbers x, into_met bars reads numbers x)
