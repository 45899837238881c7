use Rattle.brl_closure.proofs.Listed.{short_lead}
use Rattle.brl_closure.proofs.search.laws.short_lead_law.Goals as goal

pub returns : goal.returns
returns g c p reached = short_lead _ c.start.ensures.laws reached
