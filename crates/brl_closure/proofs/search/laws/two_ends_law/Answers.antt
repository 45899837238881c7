use Rattle.brl_closure.proofs.TwoRuns.{clash_from_ends}
use Rattle.brl_closure.proofs.search.laws.two_ends_law.Goals as goal

pub returns : goal.returns
returns g c exact ends = clash_from_ends _ c.start.ensures.laws exact ends
