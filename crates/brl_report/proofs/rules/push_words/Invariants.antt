use Rattle.std.proofs.Common.{◌≡◌, ◌++◌, flat_map, map, string_bytes, take, codes}
use Rattle.brl_lines.specs.Tokens.{TokenView}
use Rattle.brl_lines.specs.Views.{token_view}
use Rattle.brl_report.proofs.rules.push_words.Given as goal

-- the words so far
abbrev pub invariant-loop-word : goal.invariant-loop-word
invariant-loop-word l =
    string_bytes l.text ≡ string_bytes l.fn.text ++ l.line.opcode.text.now ++ flat_map (λ (word : TokenView). codes " " ++ word.text) (map token_view (take l.word-index l.line.operands.items))
