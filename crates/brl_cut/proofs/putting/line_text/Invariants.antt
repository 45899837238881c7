use Rattle.std.proofs.Common.{◌≡◌, ◌++◌, codes, flat_map, map, string_bytes, take}
use Rattle.brl_lines.specs.Views.{token_view}
use Rattle.brl_cut.proofs.putting.line_text.Given as goal

abbrev pub invariant-loop-operand : goal.invariant-loop-operand
invariant-loop-operand l = string_bytes l.text ≡ l.line.opcode.text.now ++ flat_map (λ operand. codes " " ++ operand.text) (map token_view (take l.operand-index l.line.operands.items))
