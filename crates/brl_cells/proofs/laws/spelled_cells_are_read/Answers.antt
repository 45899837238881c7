use Rattle.brl_cells.proofs.ReadBack.{spelled_cells_are_read}
use Rattle.brl_cells.proofs.laws.spelled_cells_are_read.Goals as goal

pub returns : goal.returns
returns c = spelled_cells_are_read
