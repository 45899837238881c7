use Rattle.std.proofs.Common.{string_bytes}
use Rattle.brl_cells.proofs.Spelling.{WrittenSoFar}
use Rattle.brl_cells.proofs.dots.write_dots.Given as goal

abbrev pub invariant-loop-place : goal.invariant-loop-place
invariant-loop-place l = WrittenSoFar l.cells l.place (string_bytes l.text)
