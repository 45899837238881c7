use Rattle.std.proofs.Common.{◌≡◌, ◌∙◌, ap, length, map, refl, string_bytes, sym}
use Rattle.std.proofs.lemmas.List.{length-map}
use Rattle.brl_acting.specs.WholeTable.{acting_view}
use Rattle.brl_tool.specs.Acting.{with_acting}
use Rattle.brl_tool.specs.Cutting.{status_over}
use Rattle.brl_without.specs.Alphabet.{alphabet_view}
use Rattle.brl_tool.proofs.cut.acting_answer.Goals as goal

pub returns : goal.returns
returns c =
    let lines = map acting_view c.args.judged.acting.now in
    let count : length c.args.judged.acting.now ≡ length lines = sym (length-map c.args.judged.acting.now acting_view) in
    let written = c.as_str.ensures.value ∙ c.in_ok-root.ensures in (
      c.status_with.ensures ∙ (λ j. status_over (c.status_of.ensures j) (count j)),
      (
        string_bytes c.in_ok-text.text,
        c.in_ok-text.ensures,
        c.in_ok-with_acting.ensures ∙ (λ j. with_acting (alphabet_view c.args.judged.alphabet.now) lines (written j) c.args.asked.table.now (string_bytes c.in_ok-text.text)),
      ),
      (c.in_ok-new_files.field-0, refl, c.in_ok-new_files.ensures),
    )
