use Rattle.std.proofs.Common.{◌≡◌, false, map, take}
use Rattle.brl_table.specs.Survey.{faulty_line_view}
use Rattle.brl_tool.specs.Suspects.{has_unknown_opcode}
use Rattle.brl_tool.proofs.suspects.has_unknown_opcode.Given as goal

abbrev pub invariant-loop-faulty : goal.invariant-loop-faulty
invariant-loop-faulty l = has_unknown_opcode (map faulty_line_view (take l.faulty-index l.found)) ≡ false
