use Rattle.brl_pairs.specs.Body.{BodyView}
use Rattle.brl_pairs.specs.Sets.{sets_of}
use Rattle.brl_dues.specs.Steps.{dues_machine}
use Rattle.brl_states.specs.declared.dues_state.DuesState.{DuesState}
use Rattle.brl_pairs.specs.Pairs.{IsClosed}
use Rattle.brl_pairs.specs.Runs.{IsExact, IsUnambiguous}
use Rattle.brl_closure.specs.Deciding.{ListsJustReached}
use Rattle.brl_rules.specs.TableView.{TableView}
use Rattle.std.proofs.Common.{◌↔◌, subst}
use Rattle.brl_search.proofs.dues_laws.dues_certificate_law.Goals as goal

pub returns : goal.returns
returns c =
    subst (λ (t : TableView). IsExact (dues_machine t) → (body : BodyView DuesState) → ListsJustReached (dues_machine t) body → IsUnambiguous (dues_machine t) ↔ IsClosed (dues_machine t) (sets_of body))
    c.new-dues.ensures.table c.just_reached_law.ensures c.exact_law.ensures
