use Rattle.std.proofs.Common.{List, ℕ, IsTrue}
use Rattle.brl_forward.specs.Faults.{IsFaultOf}
use Rattle.brl_forward.specs.declared.fault.ForwardFault.{ForwardFault}
use Rattle.brl_forward.specs.declared.fault.ForwardFault.TheVariants.{UnknownChar}
use Rattle.brl_rules.specs.TableView.{TableView}
use Rattle.brl_rules.specs.Text.{is_defined, is_text}
use Rattle.brl_report.proofs.Known.{no_unknown}
use Rattle.brl_report.proofs.steps.report_steps.Goals as goal

no_fault : (t : TableView) (text : List ℕ) (fault : ForwardFault) → IsFaultOf t text fault → IsTrue (is_text t text) → ⊥
no_fault t text (UnknownChar place) is known = no_unknown (is_defined t) text place is known

pub unreachable-requires : goal.unreachable-requires
unreachable-requires c =
    let fault = rw c.in-Err-Fault.field-0-is at c.in-Err-Fault.ensures.fault in
    no_fault c.args.table.now c.args.text.now c.in-Err-Fault.field-0-0 fault c.requires
