use Rattle.std.proofs.Common.{map, take}
use Rattle.brl_table.specs.Survey.{faulty_line_view}
use Rattle.brl_report.specs.Survey.{opcodes_of}
use Rattle.brl_report.specs.Tally.{IsTally}
use Rattle.brl_report.proofs.counts.tally_of.Given as goal

abbrev pub invariant-loop-faulty : goal.invariant-loop-faulty
invariant-loop-faulty l = IsTally (opcodes_of (map faulty_line_view (take l.faulty-index l.found))) l.opcodes l.numbers
