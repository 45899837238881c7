use Rattle.brl_clashes.proofs.KindsAddUp.{add_up}
use Rattle.brl_clashes.proofs.laws.kinds_law.Goals as goal

pub returns : goal.returns
returns c kinds = add_up kinds
