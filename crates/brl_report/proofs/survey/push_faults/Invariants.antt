use Rattle.std.proofs.Common.{◌≡◌, ◌++◌, flat_map, map, string_bytes, take}
use Rattle.brl_table.specs.Survey.{faulty_line_view}
use Rattle.brl_report.specs.Survey.{fault_line}
use Rattle.brl_report.proofs.survey.push_faults.Given as goal

abbrev pub invariant-loop-faulty : goal.invariant-loop-faulty
invariant-loop-faulty l = string_bytes l.text ≡ string_bytes l.fn.text ++ flat_map fault_line (map faulty_line_view (take l.faulty-index l.found))
