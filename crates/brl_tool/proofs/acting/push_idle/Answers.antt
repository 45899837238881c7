use Rattle.std.proofs.Common.{◌≡◌, ◌∙◌, ◌++◌, List, ℕ, ap, append_assoc, codes, string_bytes}
use Rattle.brl_tool.proofs.acting.push_idle.Goals as goal

pub returns : goal.returns
returns c =
    let old = string_bytes c.args.text.now in
    let cut = c.args.cut.now in
    let table = c.args.table.now in
    let first : List ℕ = codes "no line can act on these texts: what --only decides of " in
    let holds : List ℕ = codes " holds of " in
    let end : List ℕ = codes "\n" in
    let one : string_bytes c.push_str.new.self ≡ old ++ first = c.in_ok-push_str.ensures.bytes in
    let two : string_bytes c.push_str-2.new.self ≡ old ++ (first ++ cut) = c.in_ok-push_str-2.ensures.bytes ∙ ap (λ t. t ++ cut) one ∙ append_assoc old first cut in
    let three : string_bytes c.push_str-3.new.self ≡ old ++ (first ++ cut ++ holds) =
    c.in_ok-push_str-3.ensures.bytes ∙ ap (λ t. t ++ holds) two ∙ append_assoc old (first ++ cut) holds in
    let four : string_bytes c.push_str-4.new.self ≡ old ++ (first ++ cut ++ holds ++ table) =
    c.in_ok-push_str-4.ensures.bytes ∙ ap (λ t. t ++ table) three ∙ append_assoc old (first ++ cut ++ holds) table in
    c.in_ok-push_str-5.ensures.bytes ∙ ap (λ t. t ++ end) four ∙ append_assoc old (first ++ cut ++ holds ++ table) end
