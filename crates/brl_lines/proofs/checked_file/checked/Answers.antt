use Rattle.std.proofs.Common.{◌≡◌, ◌∙◌, ◌≤◌, ℕ, List, length, option_map, string_bytes, ap, sym, subst, arith, IsUtf8, Ok}
use Rattle.std.proofs.lemmas.Str.{IsCharBoundary-start}
use Rattle.std.specs.Str.{IsCharBoundary}
use Rattle.brl_lines.specs.Answer.{most_file_bytes}
use Rattle.brl_lines.specs.Rows.{without_mark}
use Rattle.brl_lines.specs.Views.{location_ref_view}
use Rattle.brl_lines.proofs.TextLemmas.{same-fault, text_in-large, text_in-not_utf8, text_in-good, text_in-long}
use Rattle.brl_lines.proofs.checked_file.checked.Goals as goal

pub returns-then-len-gt-MOST_FILE_BYTES-clause-text : goal.returns-then-len-gt-MOST_FILE_BYTES-clause-text
returns-then-len-gt-MOST_FILE_BYTES-clause-text c =
    same-fault _ _ c.refusal.result (text_in-large c.args.path.now (option_map location_ref_view c.args.place) c.args.bytes.items (omega (arith, c.len.ensures))) c.refusal.ensures

pub returns-in_default-clause-text : goal.returns-in_default-clause-text
returns-in_default-clause-text c =
    same-fault _ _ c.refusal-in_default.result
    (text_in-not_utf8 c.args.path.now (option_map location_ref_view c.args.place) c.args.bytes.items (omega (arith, c.len.ensures)) (λ utf8. let ok = c.in_default.ensures.succeeds utf8 in cc))
    c.refusal-in_default.ensures

pub invariant_of-result : goal.invariant_of-result
invariant_of-result c =
    let same : string_bytes c.in-Ok.whole ≡ c.args.bytes.items = ap (λ v. v.items) c.in-Ok.ensures.ok in
    let small : length (string_bytes c.in-Ok.whole) ≤ most_file_bytes = rw same (omega (arith, c.len.ensures)) in
    let text : c.without_mark.result.now ≡ without_mark (string_bytes c.in-Ok.whole) = c.without_mark.ensures ∙ ap without_mark c.as_str.ensures.value in
    record {
      small = small;
      good = λ path place.
          text_in-good path place (string_bytes c.in-Ok.whole) c.without_mark.result.now small (subst IsUtf8 c.as_str.ensures.value c.as_str.utf8) text
          (sym c.long_row.ensures ∙ c.in_default-long_row.is) ∙ ap Ok text;
      starts = subst (λ (t : List ℕ). IsCharBoundary t 0) text (IsCharBoundary-start c.without_mark.result.now c.without_mark.utf8);
    }

pub returns-clause-text : goal.returns-clause-text
returns-clause-text c =
    let same : string_bytes c.in-Ok.whole ≡ c.args.bytes.items = ap (λ v. v.items) c.in-Ok.ensures.ok in
    let text : c.without_mark.result.now ≡ without_mark c.args.bytes.items = c.without_mark.ensures ∙ ap without_mark (c.as_str.ensures.value ∙ same) in
    same-fault _ _ c.refusal-2.result
    (text_in-long c.args.path.now (option_map location_ref_view c.args.place) c.args.bytes.items c.without_mark.result.now c.in-Some.line (omega (arith, c.len.ensures))
    (subst IsUtf8 (c.as_str.ensures.value ∙ same) c.as_str.utf8) text (sym c.long_row.ensures ∙ c.in-Some.is))
    c.refusal-2.ensures
