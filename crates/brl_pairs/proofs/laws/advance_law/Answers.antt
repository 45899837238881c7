use Rattle.brl_pairs.proofs.Advancing.{advance-decides}
use Rattle.brl_pairs.proofs.laws.advance_law.Goals as goal

pub returns : goal.returns
returns g c = advance-decides
