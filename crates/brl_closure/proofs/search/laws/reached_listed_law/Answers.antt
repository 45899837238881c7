use Rattle.brl_closure.proofs.Listed.{few_pairs, few_states, pair_listed, state_listed}
use Rattle.brl_closure.proofs.search.laws.reached_listed_law.Goals as goal

pub returns-clause-states : goal.returns-clause-states
returns-clause-states g c states leads holds s reached = state_listed _ states leads holds reached

pub returns-clause-pairs : goal.returns-clause-pairs
returns-clause-pairs g c states leads holds p reached = pair_listed _ states leads holds reached

pub returns-clause-few_states : goal.returns-clause-few_states
returns-clause-few_states g c states leads holds = few_states _ states leads holds

pub returns-clause-few_pairs : goal.returns-clause-few_pairs
returns-clause-few_pairs g c states leads holds = few_pairs _ states leads holds
