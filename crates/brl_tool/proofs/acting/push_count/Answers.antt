use Rattle.std.proofs.Common.{◌≡◌, ◌∙◌, ◌++◌, List, ℕ, ap, append_assoc, codes, decimal, string_bytes}
use Rattle.brl_tool.proofs.acting.push_count.Goals as goal

pub returns : goal.returns
returns c =
    let old = string_bytes c.args.text.now in
    let opcode = c.args.opcode.now in
    let first : List ℕ = codes "can act: opcode " in
    let colon : List ℕ = codes ": " in
    let one : string_bytes c.push_str.new.self ≡ old ++ first = c.in_ok-push_str.ensures.bytes in
    let two : string_bytes c.push_str-2.new.self ≡ old ++ (first ++ opcode) = c.in_ok-push_str-2.ensures.bytes ∙ ap (λ t. t ++ opcode) one ∙ append_assoc old first opcode in
    let three : string_bytes c.push_str-3.new.self ≡ old ++ (first ++ opcode ++ colon) =
    c.in_ok-push_str-3.ensures.bytes ∙ ap (λ t. t ++ colon) two ∙ append_assoc old (first ++ opcode) colon in
    c.in_ok-write.ensures.bytes ∙ ap (λ t. t ++ decimal c.args.count) three ∙ append_assoc old (first ++ opcode ++ colon) (decimal c.args.count)
