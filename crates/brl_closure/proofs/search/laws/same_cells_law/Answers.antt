use Rattle.brl_closure.proofs.TwoRuns.{same_cells_from_paths}
use Rattle.brl_closure.proofs.search.laws.same_cells_law.Goals as goal

pub returns : goal.returns
returns g c exact left right paths = same_cells_from_paths _ exact left right paths
