use Rattle.brl_acting.proofs.FoldsOfLines.{folds_of_lines}
use Rattle.brl_acting.proofs.NeedsOfLines.{idle_by_needs, outside_by_needs}
use Rattle.brl_acting.proofs.laws.idle_needs_law.Goals as goal

pub returns : goal.returns
returns c = record { rules = idle_by_needs; definitions = outside_by_needs; folds = folds_of_lines }
