use Rattle.brl_forward.proofs.StepCells.{trace-cells}
use Rattle.brl_forward.proofs.StepLoop.{trace-position}
use Rattle.brl_forward.proofs.laws.trace_laws.Goals as goal

pub returns : goal.returns
returns c = record { position = trace-position c.choice_laws.ensures.some; cells = trace-cells }
