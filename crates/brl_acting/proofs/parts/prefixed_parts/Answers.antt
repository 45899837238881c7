use Rattle.std.proofs.Common.{◌≡◌, ◌∙◌, ℕ, List, ap, codes, map, sym}
use Rattle.std.specs.List.{list_any}
use Rattle.std.specs.Borrow.{Bor}
use Rattle.std.specs.Str.{bytes_eq}
use Rattle.brl_lines.specs.Views.{line_view}
use Rattle.brl_acting.specs.Forms.{form_of}
use Rattle.brl_acting.specs.Words.{after_prefixes, classes_of_prefixes, prefix_words, word_at, words_of}
use Rattle.brl_acting.proofs.Mapped.{list_any-map}
use Rattle.brl_acting.proofs.parts.prefixed_parts.Goals as goal

pub returns : goal.returns
returns c =
    let now : Bor (List ℕ) → List ℕ = λ word. word.now in
    let ws = words_of (line_view c.args.line.now.line.now) in
    let words : map now c.as_slice.result.now ≡ ws = ap (map now) c.as_slice.ensures.value ∙ c.in_ok-words.ensures in
    let words-2 : map now c.as_slice-2.result.now ≡ ws = ap (map now) c.as_slice-2.ensures.value ∙ c.in_ok-words.ensures in
    let after : map now c.after_prefixes-after.result.now ≡ after_prefixes ws = c.after_prefixes-after.ensures ∙ ap after_prefixes words in
    let prefixes : map now c.prefix_words-prefixes.result.now ≡ prefix_words ws = c.prefix_words-prefixes.ensures ∙ ap prefix_words words-2 in
    let nofor = c.is_among.ensures ∙ sym (list_any-map (bytes_eq (codes "nofor")) now c.prefix_words-prefixes.result.now) ∙ ap (list_any (bytes_eq (codes "nofor"))) prefixes in
    let classes = c.in_ok-classes_in.ensures ∙ ap classes_of_prefixes prefixes in
    let rest = ap (map now) c.in_ok-from_slice.ensures.items ∙ after in
    let form = c.form_after.ensures ∙ ap form_of (c.word_at.ensures ∙ ap (λ (ws : List (List ℕ)). word_at ws 0) after) in
    λ j. record {
      kept = c.args.line.now.kept;
      continued = c.args.line.now.continued;
      nofor = nofor j;
      classes = classes j;
      words = rest j;
      form = form j;
    }
