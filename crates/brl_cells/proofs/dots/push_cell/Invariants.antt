use Rattle.std.proofs.Common.{◌≡◌, ◌++◌, take, string_bytes, filter}
use Rattle.brl_cells.specs.Dots.{has_dot, dot_marks}
use Rattle.brl_cells.proofs.dots.push_cell.Given as goal

abbrev pub invariant-loop-mark : goal.invariant-loop-mark
invariant-loop-mark l = string_bytes l.text ≡ string_bytes l.fn.text ++ filter (has_dot l.cell) (take l.mark-index dot_marks)
