use Rattle.std.proofs.Common.{◌≡◌, ◌≤◌, ◌-◌, ◌+◌, ◌++◌, length, take, vec_len, vec_capacity}
use Rattle.brl_forward.proofs.walk.append.Given as goal

abbrev pub invariant-loop-cell : goal.invariant-loop-cell
invariant-loop-cell l = record {
  room : vec_len l.cells + (length l.more - l.cell-index) ≤ vec_capacity l.cells;
  items : l.cells.items ≡ l.fn.cells.items ++ take l.cell-index l.more;
}
