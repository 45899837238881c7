use Rattle.std.proofs.Common.{subst}
use Rattle.brl_pairs.specs.Based.{KeepsSharing}
use Rattle.brl_rules.specs.TableView.{TableView}
use Rattle.brl_states.specs.contracts.dues_state.DuesStatePartialEq.TheImpl.{eq-value}
use Rattle.brl_states.proofs.Kept.{keeps_of}
use Rattle.brl_dues.specs.Sharing.{dues_sharing}
use Rattle.brl_dues.specs.Steps.{dues_machine}
use Rattle.brl_dues.proofs.SharingLaws.{keeps-sharing}
use Rattle.brl_dues.proofs.machine.DuesBased.law.Goals as goal

pub returns : goal.returns
returns c =
    subst (λ (t : TableView). KeepsSharing eq-value.it (dues_machine t) (dues_sharing t)) c.self.view_is
    (keeps-sharing c.self.inside.table.now (keeps_of c.self.inside.table.now c.law.ensures))
