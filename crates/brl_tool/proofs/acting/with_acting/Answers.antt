use Rattle.std.proofs.Common.{◌≡◌, ◌∙◌, ◌++◌, List, ℕ, length, map, string_bytes, sym}
use Rattle.std.proofs.lemmas.List.{length-map}
use Rattle.brl_acting.specs.WholeTable.{acting_view}
use Rattle.brl_answers.specs.Answers.{with_alphabet_line}
use Rattle.brl_tool.specs.Acting.{acting_text, last_line}
use Rattle.brl_without.specs.Alphabet.{alphabet_view}
use Rattle.brl_tool.proofs.acting.with_acting.Goals as goal

pub returns : goal.returns
returns c =
    let lines = map acting_view c.args.judged.acting.now in
    let count : length c.args.judged.acting.now ≡ length lines = sym (length-map c.args.judged.acting.now acting_view) in
    let with_line = with_alphabet_line (alphabet_view c.args.judged.alphabet.now) (string_bytes c.args.report) in
    let named : c.as_str.result.now ≡ acting_text lines = c.as_str.ensures.value ∙ c.in_ok-acting_text.ensures in
    let first : string_bytes c.push_str.new.self ≡ with_line ++ acting_text lines = c.in_ok-push_str.ensures.bytes ∙ (λ j. c.in_ok-text.ensures j ++ named j) in
    c.in_ok-push_last.ensures ∙ (λ j. first j ++ last_line c.args.cut.now c.args.table.now (count j))
