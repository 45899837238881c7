use Rattle.std.proofs.Common.{rules, ◌≡◌, ℕ, List, [], ◌∷◌, Some, IfOk, slice_get, string_bytes, subst}
use Rattle.std.specs.Fmt.{decimal}
use Rattle.std.specs.Str.{encode_utf8_all}
use Rattle.brl_lines.specs.Spelling.{text_spelling}
use Rattle.brl_tool.proofs.NoticesLemmas.{notice_pieces}
use Rattle.brl_tool.proofs.notices.notice_text.Goals as goal

pub returns : goal.returns
returns c =
    let spelled : string_bytes c.in_ok-character.character ≡ encode_utf8_all (text_spelling (c.args.notice.character ∷ [])) = search rules in
    let file : slice_get c.args.table.now.files c.args.notice.file ≡ Some c.file_name-file.result.now = search rules in
    let line : string_bytes c.in_ok-line.line ≡ decimal c.args.notice.line = search rules in
    subst (λ (line : List ℕ). IfOk c.format.result (λ text. string_bytes text ≡ line))
    (notice_pieces c.args.table.now c.args.notice (string_bytes c.in_ok-character.character) c.file_name-file.result.now (string_bytes c.in_ok-line.line) spelled file line)
    c.format.ensures.ok
