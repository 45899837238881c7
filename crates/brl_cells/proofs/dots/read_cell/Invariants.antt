use Rattle.brl_cells.proofs.Reading.{ReadSoFar}
use Rattle.brl_cells.proofs.dots.read_cell.Given as goal

abbrev pub invariant-loop-mark : goal.invariant-loop-mark
invariant-loop-mark l = ReadSoFar l.marks l.mark-index l.cell
