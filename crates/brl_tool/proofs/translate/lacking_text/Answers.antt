use Rattle.std.proofs.Common.{rules, ◌≡◌, ℕ, List, [], ◌∷◌, IfOk, string_bytes, subst}
use Rattle.std.specs.Fmt.{decimal}
use Rattle.std.specs.Str.{encode_utf8_all}
use Rattle.brl_lines.specs.Visible.{visible_text}
use Rattle.brl_tool.specs.Streams.{code_point}
use Rattle.brl_tool.proofs.StreamLemmas.{lacking_pieces}
use Rattle.brl_tool.proofs.translate.lacking_text.Goals as goal

pub returns : goal.returns
returns c =
    let spelled : string_bytes c.in_ok-spelled.spelled ≡ encode_utf8_all (visible_text (c.args.lacking.character ∷ [])) = search rules in
    let code : string_bytes c.in_ok-code.code ≡ code_point c.args.lacking.character = search rules in
    let count : string_bytes c.in_ok-count.count ≡ decimal c.args.lacking.count = search rules in
    let line : string_bytes c.in_ok-line.line ≡ decimal c.args.lacking.line = search rules in
    subst (λ (line : List ℕ). IfOk c.format.result (λ text. string_bytes text ≡ line))
    (lacking_pieces c.args.lacking (string_bytes c.in_ok-spelled.spelled) (string_bytes c.in_ok-code.code) (string_bytes c.in_ok-count.count) (string_bytes c.in_ok-line.line) spelled code count line)
    c.format.ensures.ok
