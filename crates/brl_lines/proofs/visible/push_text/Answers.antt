use Rattle.std.proofs.Common.{◌≡◌, List, OnOk, string_bytes, subst, ℕ}
use Rattle.brl_lines.proofs.VisibleLemmas.{text_written}
use Rattle.brl_lines.proofs.visible.push_text.Goals as goal

pub returns : goal.returns
returns c =
    subst (λ (bytes : List ℕ). OnOk c.push_rest.result (string_bytes c.push_rest.new.text ≡ bytes))
    (text_written c.args.characters.now c.in-Some.rest.now c.in-Some.first.now (string_bytes c.args.text.now) (string_bytes c.push_visible.new.text) c.in-Some.ensures.cases.0 c.in_ok-push_visible.ensures) c.push_rest.ensures
