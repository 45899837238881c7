use Rattle.brl_pairs.proofs.Closed.{clashes_from_divergences, divergences_from_clashes, one_list}
use Rattle.brl_pairs.proofs.laws.one_list_law.Goals as goal

pub returns-clause-clashes : goal.returns-clause-clashes
returns-clause-clashes g c exact rules = (clashes_from_divergences _ exact rules, divergences_from_clashes _ exact rules)

pub returns-clause-same : goal.returns-clause-same
returns-clause-same g c exact rules others is also r s = one_list _ exact rules others is also r s
