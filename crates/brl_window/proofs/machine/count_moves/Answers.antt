use Rattle.std.proofs.Common.{length}
use Rattle.brl_window.proofs.Loops.{count_next}
use Rattle.brl_window.proofs.machine.count_moves.Goals as goal

pub loop-power-preserved : goal.loop-power-preserved
loop-power-preserved c = count_next (length c.args.table.now.characters) c.loop-power.power c.loop-power.moves _ _ c.char_count-letters.ensures.count c.loop-power.invariant c.min-moves.ensures
