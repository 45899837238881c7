use Rattle.std.proofs.Common.{◌≡◌, ℕ, Bool, true, false, List, None, refl}
use Rattle.brl_forward.specs.Faults.{IsFaultOf}
use Rattle.brl_forward.specs.declared.fault.ForwardFault.{ForwardFault}
use Rattle.brl_forward.specs.declared.fault.ForwardFault.TheVariants.{UnknownChar}
use Rattle.brl_rules.specs.TableView.{TableView}
use Rattle.brl_rules.specs.Text.{is_defined, is_text}
use Rattle.brl_report.proofs.Known.{no_unknown}
use Rattle.brl_report.specs.Unused.{first_rule}
use Rattle.brl_report.proofs.unused.first_rule.Goals as goal

-- a text with an undefined character has no first step
no_step : (t : TableView) (text : List ℕ) (b : Bool) → is_text t text ≡ b → (is_text t text ≡ true → ⊥) → None ≡ first_rule t text
no_step t text true is other = absurd (other is)
no_step t text false is other = rw is refl

undefined : (t : TableView) (text : List ℕ) (fault : ForwardFault) → IsFaultOf t text fault → None ≡ first_rule t text
undefined t text (UnknownChar place) is = no_step t text (is_text t text) refl (no_unknown (is_defined t) text place is)

pub returns-in-Err-Fault : goal.returns-in-Err-Fault
returns-in-Err-Fault c =
    let fault = rw c.in-Err-Fault.field-0-is at c.in-Err-Fault.ensures.fault in
    undefined c.args.table.now c.args.text.now c.in-Err-Fault.field-0-0 fault
