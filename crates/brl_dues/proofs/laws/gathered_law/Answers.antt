use Rattle.brl_dues.proofs.Left.{are-gathered, gathered-are}
use Rattle.brl_dues.proofs.laws.gathered_law.Goals as goal

pub returns : goal.returns
returns c carried dues = (gathered-are carried dues, are-gathered carried dues)
