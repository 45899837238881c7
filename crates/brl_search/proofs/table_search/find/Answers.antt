use Rattle.std.proofs.Common.{◌∙◌, ℕ, List, subst₂}
use Rattle.brl_dues.specs.Steps.{dues_machine}
use Rattle.brl_closure.specs.Answers.{IsOutcome}
use Rattle.brl_rules.specs.TableView.{TableView}
use Rattle.brl_without.specs.Without.{without}
use Rattle.brl_search.proofs.table_search.find.Goals as goal

pub found_of-requires : goal.found_of-requires
found_of-requires g c = (c.args.limit, subst₂ (λ (cs : List ℕ) (t : TableView). IsOutcome (without cs (dues_machine t)) c.args.limit c.in_ok-outcome.outcome) c.new-machine.ensures.left_out (c.new-machine.ensures.machine ∙ c.new-dues.ensures.table) c.in_ok-outcome.ensures)

pub returns-clause-found : goal.returns-clause-found
returns-clause-found g c = c.found_of.ensures.found c.args.limit (subst₂ (λ (cs : List ℕ) (t : TableView). IsOutcome (without cs (dues_machine t)) c.args.limit c.in_ok-outcome.outcome) c.new-machine.ensures.left_out (c.new-machine.ensures.machine ∙ c.new-dues.ensures.table) c.in_ok-outcome.ensures)
