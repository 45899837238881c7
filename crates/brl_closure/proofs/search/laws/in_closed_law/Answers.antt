use Rattle.brl_pairs.specs.Pairs.{numbered}
use Rattle.brl_closure.proofs.InClosed.{few_reached, state_in}
use Rattle.brl_closure.proofs.search.laws.in_closed_law.Goals as goal

pub returns-clause-states : goal.returns-clause-states
returns-clause-states g c states pairs closed s reached = state_in _ (numbered states pairs) closed.start closed.steps reached

pub returns-clause-few_states : goal.returns-clause-few_states
returns-clause-few_states g c body closed = few_reached _ body closed.start closed.steps
