use Rattle.brl_forward.proofs.Sides.{err-of_right}
use Rattle.brl_forward.proofs.UnknownChars.{first_unknown-of_text}
use Rattle.brl_forward.proofs.clash.confirm.Goals as goal

pub returns-in_err-others-clause-fault : goal.returns-in_err-others-clause-fault
returns-in_err-others-clause-fault c =
    err-of_right c.args.table.now c.args.left.now c.args.right.now c.from_residual-in_err-others.result c.in_err-others.field-0.0
    (first_unknown-of_text c.args.table.now c.args.left.now c.in_ok-cells.ensures.text) c.in_err-others.ensures.fault c.from_residual-in_err-others.ensures.1
