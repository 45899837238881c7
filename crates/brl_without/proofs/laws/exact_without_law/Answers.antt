use Rattle.brl_without.proofs.Paths.{keeps_exact}
use Rattle.brl_without.proofs.laws.exact_without_law.Goals as goal

pub returns : goal.returns
returns g c left_out exact = keeps_exact left_out _ exact
