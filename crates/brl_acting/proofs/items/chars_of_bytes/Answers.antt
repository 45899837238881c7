use Rattle.std.proofs.Common.{◌≡◌, ◌∙◌, IfOk, None, List, Option, ℕ, ap, option_map, subst, sym}
use Rattle.std.specs.Prelude.{if◌then◌else◌}
use Rattle.std.proofs.lemmas.Str.{is_utf8-from_IsUtf8}
use Rattle.brl_acting.specs.Tests.{chars_of_bytes}
use Rattle.brl_acting.specs.Words.{all_chars_in}
use Rattle.brl_acting.proofs.Bytes.{no_text}
use Rattle.brl_acting.proofs.items.chars_of_bytes.Goals as goal

pub returns-in-Ok : goal.returns-in-Ok
returns-in-Ok c =
    let bytes = c.args.bytes.now in
    let found : Option (List ℕ) = all_chars_in bytes in
    let is : all_chars_in c.in-Ok.text.now ≡ chars_of_bytes bytes =
    ap all_chars_in c.in-Ok.ensures.cases.0 ∙ sym (ap (λ b. if b then found else None) (is_utf8-from_IsUtf8 bytes c.in-Ok.ensures.cases.1)) in
    subst (λ f. IfOk c.all_chars_in.result (λ chars. option_map (λ cs. cs.items) chars ≡ f)) is c.all_chars_in.ensures

pub returns-in-Err : goal.returns-in-Err
returns-in-Err c =
    let bytes = c.args.bytes.now in
    let found : Option (List ℕ) = all_chars_in bytes in
    sym (ap (λ b. if b then found else None) (no_text bytes c.in-Err.ensures.cases.0))
