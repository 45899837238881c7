use Rattle.brl_closure.proofs.TwoRuns.{two_runs}
use Rattle.brl_closure.proofs.search.laws.two_runs_law.Goals as goal

pub returns : goal.returns
returns g c p reached = two_runs _ c.start.ensures.laws reached
