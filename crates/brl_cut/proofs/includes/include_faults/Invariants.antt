use Rattle.std.proofs.Common.{◌≡◌, map, take}
use Rattle.brl_lines.specs.Gathered.{left_view}
use Rattle.brl_table.specs.Survey.{faulty_line_view}
use Rattle.brl_cut.specs.Cuts.{include_fault}
use Rattle.brl_cut.proofs.includes.include_faults.Given as goal

abbrev pub invariant-loop-left : goal.invariant-loop-left
invariant-loop-left l = map faulty_line_view l.faulty.items ≡ map include_fault (map left_view (take l.left-index l.left_out))
