use Rattle.std.proofs.Common.{◌≡◌, min, length}
use Rattle.brl_window.specs.Width.{powers}
use Rattle.brl_window.proofs.machine.count_moves.Given as goal

abbrev pub invariant-loop-power : goal.invariant-loop-power
invariant-loop-power l = l.moves ≡ min (powers (length l.table.characters) l.power) 10001
