use Rattle.brl_without.proofs.Paths.{keeps_closed}
use Rattle.brl_without.proofs.laws.closed_without_law.Goals as goal

pub returns : goal.returns
returns g c left_out closed = keeps_closed left_out _ _ closed
