use Rattle.brl_closure.proofs.InClosed.{few_reached}
use Rattle.brl_dues.specs.Steps.{dues_machine}
use Rattle.brl_without.specs.Without.{without}
use Rattle.brl_search.proofs.dues_laws.fewest_states_law.Goals as goal

pub returns-clause-closed : goal.returns-clause-closed
returns-clause-closed c left_out t body closed = few_reached (without left_out (dues_machine t)) body closed.start closed.steps

pub returns-clause-up_to : goal.returns-clause-up_to
returns-clause-up_to c left_out excused t body closed = few_reached (without left_out (dues_machine t)) body closed.start closed.steps

pub returns-clause-limit : goal.returns-clause-limit
returns-clause-limit c left_out excused more t limit states pairs body searched closed =
    few_reached (without left_out (dues_machine t)) body closed.start closed.steps states searched.found_for.over.states_reached
