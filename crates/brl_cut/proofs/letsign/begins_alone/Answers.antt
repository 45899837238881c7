use Rattle.std.proofs.Common.{◌≡◌, ◌∙◌, ◌&&◌, ap, false, not, sym, true}
use Rattle.brl_acting.specs.Letters.{letters_view}
use Rattle.brl_cut.proofs.RewriteLemmas.{few-chars, more-chars}
use Rattle.brl_cut.proofs.letsign.begins_alone.Goals as goal

pub returns-in_default : goal.returns-in_default
returns-in_default c = sym (few-chars (letters_view c.args.letters.now) c.args.chars.now c.in_default.len_below)

pub returns-then-takes_sign : goal.returns-then-takes_sign
returns-then-takes_sign c =
    let letters = letters_view c.args.letters.now in
    let takes : letters.takes_sign c.first-item.result ≡ true = sym c.takes_sign.ensures ∙ c.if-takes_sign.true in
    ap not c.has.ensures ∙ sym (more-chars letters c.args.chars.now _ _ _ _ c.in-len2-up.len_at_least c.first-item.is c.second-item.is ∙ ap (λ b. b && not (letters.is_letter c.second-item.result)) takes)

pub returns-else-takes_sign : goal.returns-else-takes_sign
returns-else-takes_sign c =
    let letters = letters_view c.args.letters.now in
    let takes : letters.takes_sign c.first-item.result ≡ false = sym c.takes_sign.ensures ∙ c.if-takes_sign.false in
    c.if-takes_sign.false
    ∙ sym (more-chars letters c.args.chars.now _ _ _ _ c.in-len2-up.len_at_least c.first-item.is c.second-item.is ∙ ap (λ b. b && not (letters.is_letter c.second-item.result)) takes)
