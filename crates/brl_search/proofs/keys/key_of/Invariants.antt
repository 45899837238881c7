use Rattle.std.proofs.Common.{◌≡◌, take}
use Rattle.std.specs.List.{fold}
use Rattle.brl_search.specs.Smaller.{mixed}
use Rattle.brl_search.proofs.keys.key_of.Given as goal

abbrev pub invariant-loop-cell : goal.invariant-loop-cell
invariant-loop-cell l = l.key ≡ fold mixed 0 (take l.cell-index l.cells)
