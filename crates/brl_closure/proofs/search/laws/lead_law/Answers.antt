use Rattle.brl_closure.proofs.Listed.{lead_of}
use Rattle.brl_closure.proofs.search.laws.lead_law.Goals as goal

pub returns : goal.returns
returns g c p reached = lead_of _ reached
