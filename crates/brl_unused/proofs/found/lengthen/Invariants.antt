use Rattle.std.proofs.Common.{◌-◌, length}
use Rattle.brl_unused.specs.Exploring.{MarkSame}
use Rattle.brl_unused.proofs.found.lengthen.Given as goal

abbrev pub invariant-loop-marks : goal.invariant-loop-marks
invariant-loop-marks l = MarkSame l.initial.marks.items l.marks.items

abbrev pub decreases-loop-marks : goal.decreases-loop-marks
decreases-loop-marks l = l.count - length l.marks.items
