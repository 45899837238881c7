-- The machine over which tables are searched, and the certificates that a search gives. Both are
-- named here alone. The project's own choice.
use Rattle.brl_pairs.specs.Body.{BodyView}
use Rattle.brl_states.specs.declared.cert.Cert.TheVariants.{Word}
use Rattle.brl_states.specs.declared.cert.Cert.{Cert as Certificate}
use Rattle.brl_dues.specs.Steps.{dues_machine}
use Rattle.brl_states.specs.declared.dues_state.DuesState.{DuesState}
use Rattle.brl_pairs.specs.Runs.{Behaviour}
use Rattle.brl_rules.specs.TableView.{TableView}

-- its states
abbrev pub State : Type 0
State = DuesState

-- the machine of a table
abbrev pub machine_of : TableView → Behaviour State
machine_of t = dues_machine t

-- the certificate that lists these states and pairs of it
abbrev pub certificate_of : BodyView State → Certificate
certificate_of body = Word body
