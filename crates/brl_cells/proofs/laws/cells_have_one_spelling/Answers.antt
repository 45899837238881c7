use Rattle.brl_cells.proofs.ReadBack.{cells_have_one_spelling}
use Rattle.brl_cells.proofs.laws.cells_have_one_spelling.Goals as goal

pub returns : goal.returns
returns c = cells_have_one_spelling
