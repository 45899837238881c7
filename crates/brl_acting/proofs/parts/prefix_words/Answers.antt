use Rattle.std.proofs.Common.{◌≡◌, ◌∙◌, ◌-◌, List, ℕ, ap, length, map, sym, take}
use Rattle.std.specs.Borrow.{Bor}
use Rattle.std.proofs.lemmas.List.{length-map, take-map}
use Rattle.brl_acting.specs.Words.{after_prefixes}
use Rattle.brl_acting.proofs.parts.prefix_words.Goals as goal

pub returns : goal.returns
returns c =
    let now : Bor (List ℕ) → List ℕ = λ word. word.now in
    let words = c.args.words.now in
    let all : length words ≡ length (map now words) = sym (length-map words now) in
    let after : length c.args.after.now ≡ length (after_prefixes (map now words)) = sym (length-map c.args.after.now now) ∙ ap length c.requires in
    let count : c.saturating_sub.result ≡ length (map now words) - length (after_prefixes (map now words)) = c.saturating_sub.ensures ∙ (λ j. all j - after j) in
    sym (take-map now c.saturating_sub.result words) ∙ ap (λ k. take k (map now words)) count
