use Rattle.std.proofs.Common.{◌≡◌, take}
use Rattle.brl_slips.specs.Pieces.{cells_of}
use Rattle.brl_slips.proofs.slip.cells_of_row.Given as goal

abbrev pub invariant-loop-number : goal.invariant-loop-number
invariant-loop-number l = l.cells.items ≡ cells_of l.pieces (take l.number-index l.row)
