use Rattle.std.proofs.Common.{◌≡◌, ◌++◌, map, take}
use Rattle.brl_acting.specs.WholeTable.{acting_view, made_lines}
use Rattle.brl_lines.specs.GatherFaults.{gathered_view}
use Rattle.brl_table.specs.Survey.{faulty_line_view}
use Rattle.brl_acting.proofs.whole_table.push_made.Given as goal

abbrev pub invariant-loop-faulty : goal.invariant-loop-faulty
invariant-loop-faulty l =
    map acting_view l.found.items ≡ map acting_view l.fn.found.items ++ made_lines (gathered_view l.gathered) (map faulty_line_view (take l.faulty-index l.left_out))
