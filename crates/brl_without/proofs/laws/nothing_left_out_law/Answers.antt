use Rattle.brl_without.specs.Itself.{without-none}
use Rattle.brl_without.proofs.laws.nothing_left_out_law.Goals as goal

pub returns : goal.returns
returns g c = without-none _
