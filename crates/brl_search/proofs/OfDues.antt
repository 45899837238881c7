-- The finite lists of a table's dues machine contain its steps.
use Rattle.std.proofs.Common.{◌≡◌, ℕ, List, ◌++◌}
use Rattle.std.specs.List.{Contains}
use Rattle.brl_dues.specs.Finite.{all_leads, all_states}
use Rattle.brl_dues.specs.Steps.{dues_machine, dues_steps, first_state}
use Rattle.brl_states.specs.declared.dues_state.DuesState.{DuesState}
use Rattle.brl_pairs.specs.Runs.{IsListed}
use Rattle.brl_pairs.specs.declared.step.Step.{Step}
use Rattle.brl_closure.specs.Deciding.{HoldsSteps}
use Rattle.brl_rules.specs.TableView.{TableView}

pub lists_hold : (t : TableView) → Contains (all_states t) first_state
    → ((s : DuesState) (x : Step DuesState) → Contains (all_states t) s → IsListed (dues_steps t s) x → Contains (all_states t) x.next)
    → ((s : DuesState) (x : Step DuesState) (front lead : List ℕ) → Contains (all_states t) s → IsListed (dues_steps t s) x → x.cells ≡ front ++ lead → Contains (all_leads t) lead)
    → HoldsSteps (dues_machine t) (all_states t) (all_leads t)
lists_hold t first next leads = record { start = first; next = next; each_lead = leads }
