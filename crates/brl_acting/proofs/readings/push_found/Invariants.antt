use Rattle.std.proofs.Common.{◌≡◌, ◌++◌, take}
use Rattle.brl_acting.proofs.readings.push_found.Given as goal

abbrev pub invariant-loop-cell : goal.invariant-loop-cell
invariant-loop-cell l = l.cells.items ≡ l.fn.cells.items ++ take l.cell-index l.found
