use Rattle.brl_rules.proofs.SignLists.{own-cells, same-sign}
use Rattle.brl_rules.proofs.laws.signs_law.Goals as goal

pub returns : goal.returns
returns c = record { own = own-cells; same = same-sign }
