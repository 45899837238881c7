use Rattle.std.proofs.Common.{◌↔◌, subst}
use Rattle.brl_dues.specs.Steps.{dues_machine}
use Rattle.brl_pairs.specs.Pairs.{IsClosed}
use Rattle.brl_pairs.specs.Runs.{IsExact, IsUnambiguous}
use Rattle.brl_closure.specs.Deciding.{HasClosedSets, reached_sets}
use Rattle.brl_rules.specs.TableView.{TableView}
use Rattle.brl_search.proofs.dues_laws.dues_closed_law.Goals as goal

pub returns-clause-reached : goal.returns-clause-reached
returns-clause-reached c =
    subst (λ (t : TableView). IsExact (dues_machine t) → IsUnambiguous (dues_machine t) ↔ IsClosed (dues_machine t) (reached_sets (dues_machine t)))
    c.new-dues.ensures.table c.reached_closed_law.ensures.reached c.exact_law.ensures

pub returns-clause-some : goal.returns-clause-some
returns-clause-some c =
    subst (λ (t : TableView). IsExact (dues_machine t) → IsUnambiguous (dues_machine t) ↔ HasClosedSets (dues_machine t))
    c.new-dues.ensures.table c.reached_closed_law.ensures.some c.exact_law.ensures
