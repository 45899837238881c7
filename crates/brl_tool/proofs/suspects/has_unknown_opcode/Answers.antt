use Rattle.std.proofs.Common.{◌∙◌, ap, sym}
use Rattle.std.specs.Prelude.{string_bytes}
use Rattle.brl_lines.proofs.ChainLemmas.{any_here}
use Rattle.brl_table.specs.Liblouis.{origin_of}
use Rattle.brl_table.specs.Survey.{faulty_line_view}
use Rattle.brl_tool.specs.Suspects.{is_unknown}
use Rattle.brl_tool.proofs.suspects.has_unknown_opcode.Goals as goal

pub returns-then-is_unknown : goal.returns-then-is_unknown
returns-then-is_unknown c =
    let passes = ap (λ faulty. is_unknown (origin_of (string_bytes faulty.opcode))) (sym c.faulty-item.is) ∙ ap (λ opcode. is_unknown (origin_of opcode)) (sym c.as_str.ensures.value) ∙ sym c.is_unknown.ensures ∙ c.if-is_unknown.true in
    sym (any_here (λ faulty. is_unknown (origin_of faulty.opcode)) faulty_line_view c.args.found.now c.loop-faulty.faulty-index c.faulty-item.result c.loop-faulty-test.true passes)
