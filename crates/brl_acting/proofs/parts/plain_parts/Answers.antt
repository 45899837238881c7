use Rattle.std.proofs.Common.{◌≡◌, ◌∙◌, ◌-◌, ℕ, List, [], ap, arith, codes, length, map, refl, sym, take}
use Rattle.std.specs.Borrow.{Bor}
use Rattle.std.specs.List.{list_any}
use Rattle.std.specs.Str.{bytes_eq}
use Rattle.std.specs.Cmp.Lexicographic.{bytes_decides}
use Rattle.brl_lines.specs.Views.{line_view}
use Rattle.brl_acting.specs.Forms.{form_of}
use Rattle.brl_acting.specs.PartsViews.{parts_view}
use Rattle.brl_acting.proofs.OpcodeForms.{no_prefix}
use Rattle.brl_acting.specs.Words.{after_prefixes, classes_of_prefixes, prefix_length, prefix_words, word_at, words_of}
use Rattle.brl_acting.proofs.parts.plain_parts.Goals as goal

pub returns : goal.returns
returns c =
    let ws = words_of (line_view c.args.line.now.line.now) in
    let last = parts_view c.args.last.now in
    let same : word_at last.words 0 ≡ c.args.line.now.line.now.opcode.text.now = (bytes_decides (word_at last.words 0) c.args.line.now.line.now.opcode.text.now).0 c.requires.opcode in
    let plain : prefix_length c.args.line.now.line.now.opcode.text.now ≡ 0 = ap prefix_length (sym same) ∙ no_prefix last c.args.last.now.form_is c.requires.known in
    let after : ws ≡ after_prefixes ws = rw plain refl in
    let none : [] ≡ prefix_words ws =
    let nothing : 0 ≡ length ws - length (after_prefixes ws) = (let same : length (after_prefixes ws) ≡ length ws = ap length (sym after) in omega (arith, same)) in
    ap (λ n. take n ws) nothing in
    let form = c.args.last.now.form_is ∙ ap form_of same ∙ ap (λ (all : List (List ℕ)). form_of (word_at all 0)) after in
    λ j. record {
      kept = c.args.line.now.kept;
      continued = c.args.line.now.continued;
      nofor = list_any (bytes_eq (codes "nofor")) (none j);
      classes = (ap (map (λ (word : Bor (List ℕ)). word.now)) c.new.ensures.items ∙ ap classes_of_prefixes none) j;
      words = (c.in_ok-words.ensures ∙ after) j;
      form = form j;
    }
