use Rattle.brl_closure.proofs.TwoRuns.{same_cells_from_paths, clash_of_table}
use Rattle.brl_closure.proofs.search.laws.clash_law.Goals as goal

pub returns : goal.returns
returns g c left right paths = clash_of_table _ _ c.requires.texts c.requires.translation left right (same_cells_from_paths _ c.requires.exact left right paths)
