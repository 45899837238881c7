use Rattle.std.proofs.Common.{◌≡◌, ◌∙◌, ◌-◌, ◌++◌, ℕ, List, ap, append_assoc, codes, flat_map, length, map, string_bytes, sym}
use Rattle.brl_clashes.specs.SectionText.{first_of, first_ones, number_line, others_words, rule_clash_line}
use Rattle.brl_lines.specs.Views.{line_view}
use Rattle.brl_clashes.proofs.section_text.push_clashes.Goals as goal

-- three lists one after another
joined : (old f a b first second third : List ℕ) → first ≡ old ++ f → second ≡ first ++ a → third ≡ second ++ b → third ≡ old ++ ((f ++ a) ++ b)
joined old f a b first second third first_is second_is third_is =
    third_is ∙ ap (λ t. t ++ b) (second_is ∙ ap (λ t. t ++ a) first_is) ∙ append_assoc (old ++ f) a b ∙ append_assoc old f (a ++ b) ∙ ap (λ rest. old ++ rest) (sym (append_assoc f a b))

pub returns : goal.returns
returns c =
    let t = c.args.listing.table.now in
    let form = c.args.form in
    let line = rule_clash_line t (map line_view c.args.listing.lines.now) in
    let shown = c.args.shown.now in
    let begun = first_ones (first_of form) shown in
    let begun_is = c.first_ones-begun.ensures ∙ ap (λ n. first_ones n shown) c.first.ensures in
    let lines_are = c.in_ok-push_lines.ensures ∙ ap (λ cs. string_bytes c.args.text.now ++ flat_map line cs) begun_is in
    let more_are = c.in_ok-push_number.ensures ∙ ap (λ n. string_bytes c.push_lines.new.text ++ number_line n (codes " more")) (c.saturating_sub.ensures ∙ ap (λ cs. length shown - length cs) begun_is) in
    let others_are = c.in_ok-push_number-2.ensures ∙ (λ j. string_bytes c.push_number.new.text ++ number_line (c.saturating_sub-others.ensures j) (c.others.ensures j)) in
    joined (string_bytes c.args.text.now) (flat_map line begun) (number_line (length shown - length begun) (codes " more")) (number_line (c.args.count - length shown) (others_words form))
    (string_bytes c.push_lines.new.text) (string_bytes c.push_number.new.text) (string_bytes c.push_number-2.new.text) lines_are more_are others_are
