use Rattle.std.proofs.Common.{◌≡◌, ◌∙◌, ◌++◌, codes, rules, string_bytes}
use Rattle.brl_tool.proofs.search.unexchanged.Goals as goal

pub returns : goal.returns
returns c =
    let reason = string_bytes c.in_ok-reason.reason in
    let text : string_bytes c.in_ok-text.text ≡ codes "not exchangeable: " ++ (reason ++ codes "\n") = search rules in
    (reason ++ codes "\n", (c.new.ensures.0, c.new.ensures.1 ∙ text, c.new.ensures.2))
