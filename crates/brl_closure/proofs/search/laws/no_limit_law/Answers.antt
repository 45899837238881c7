use Rattle.brl_closure.proofs.TwoRuns.{no_limit}
use Rattle.brl_closure.proofs.search.laws.no_limit_law.Goals as goal

pub returns : goal.returns
returns g c limit states pairs few_states few_pairs is = no_limit _ limit states pairs few_states few_pairs is
