use Rattle.std.proofs.Common.{◌≡◌, ◌∷◌, map, take}
use Rattle.brl_lines.specs.Views.{token_view}
use Rattle.brl_acting.proofs.parts.words_of.Given as goal

abbrev pub invariant-loop-operand : goal.invariant-loop-operand
invariant-loop-operand l = map (λ word. word.now) l.words.items ≡ l.line.opcode.text.now ∷ map (λ token. token.text) (map token_view (take l.operand-index l.line.operands.items))
