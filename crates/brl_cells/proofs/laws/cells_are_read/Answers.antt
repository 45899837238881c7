use Rattle.brl_cells.proofs.InRange.{cells_are_read}
use Rattle.brl_cells.proofs.laws.cells_are_read.Goals as goal

pub returns : goal.returns
returns c = cells_are_read
