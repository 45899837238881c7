use Rattle.std.proofs.Common.{◌≡◌, map, take}
use Rattle.brl_table.specs.Survey.{faulty_line_view}
use Rattle.brl_report.specs.Survey.{count_among, opcodes_of}
use Rattle.brl_report.proofs.counts.counts_of.Given as goal

abbrev pub invariant-loop-opcode : goal.invariant-loop-opcode
invariant-loop-opcode l = l.counts.items ≡ map (λ name. count_among (opcodes_of (map faulty_line_view l.fn.found)) name.now) (take l.opcode-index l.opcode-items)
