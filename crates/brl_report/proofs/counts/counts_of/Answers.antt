use Rattle.std.proofs.Common.{rules, ◌∙◌, ap, map, take_all}
use Rattle.brl_table.specs.Survey.{faulty_line_view}
use Rattle.brl_report.specs.Survey.{count_among, opcodes_of}
use Rattle.brl_report.proofs.Tallies.{counts-more, counts-of_sort}
use Rattle.brl_report.proofs.counts.counts_of.Goals as goal

pub loop-opcode-preserved : goal.loop-opcode-preserved
loop-opcode-preserved c =
    let opcodes = opcodes_of (map faulty_line_view c.args.found.now) in
    counts-more opcodes c.deref-opcode-items.result.now c.loop-opcode.opcode-index _ c.loop-opcode.counts.items c.push.new.self.items _ c.number-lines.result c.loop-opcode-test.true
    c.loop-opcode.invariant c.in_ok-opcode.ensures.ok (c.number-lines.ensures opcodes c.in_ok-tally.ensures) c.in_ok-push.ensures.items

pub returns : goal.returns
returns c =
    counts-of_sort (opcodes_of (map faulty_line_view c.args.found.now)) c.in_ok-tally.tally.opcodes.items c.loop-opcode.counts.items c.sort_unstable_by.new.self.items c.in_ok-tally.ensures.names_are
    (c.loop-opcode.invariant ∙ ap (map (λ name. count_among (opcodes_of (map faulty_line_view c.args.found.now)) name.now)) (take_all c.loop-opcode.opcode-index c.deref-opcode-items.result.now c.loop-opcode-test.false ∙ c.deref-opcode-items.ensures.value))
    c.sort_unstable_by.ensures.permutation c.sort_unstable_by.ensures.sorted (λ f a r f' called. search rules)
