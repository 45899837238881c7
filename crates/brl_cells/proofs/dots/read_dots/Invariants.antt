use Rattle.std.proofs.Common.{length}
use Rattle.brl_cells.specs.Dots.{parts}
use Rattle.brl_cells.proofs.Parts.{PartsSoFar}
use Rattle.brl_cells.proofs.dots.read_dots.Given as goal

abbrev pub invariant-loop-marks : goal.invariant-loop-marks
invariant-loop-marks l = PartsSoFar (parts l.text) (length l.yielded) l.cells
