use Rattle.std.proofs.Common.{◌≡◌, ◌∙◌, ◌++◌, ℕ, List, OnOk, append_assoc, ap, codes, refl, string_bytes, subst}
use Rattle.brl_lines.specs.Views.{line_view}
use Rattle.brl_report.specs.Rules.{source_line}
use Rattle.brl_explain.specs.InFile.{unclear_line, words_line}
use Rattle.brl_explain.proofs.in_file.push_faulty_line.Goals as goal

-- what is appended piece by piece is appended whole
joined : (before title source words unclear : List ℕ) → (((before ++ title) ++ source) ++ words) ++ unclear ≡ before ++ (((title ++ source) ++ words) ++ unclear)
joined before title source words unclear = simp append_assoc refl

pub returns : goal.returns
returns c =
    let line = line_view c.args.line.now in
    let source = source_line line in
    let words = words_line c.args.fault.now line in
    let unclear = unclear_line line in
    let pieces : string_bytes c.push_seen_words.new.notes ≡ ((string_bytes c.args.notes.now ++ codes "Line:\n") ++ source) ++ words =
    c.in_ok-push_seen_words.ensures ∙ ap (λ (b : List ℕ). b ++ words) (c.in_ok-push_source_line.ensures ∙ ap (λ (b : List ℕ). b ++ source) c.in_ok-push_str.ensures.bytes) in
    subst (λ (after : List ℕ). OnOk c.push_unclear_words.result (string_bytes c.push_unclear_words.new.notes ≡ after))
    (ap (λ (b : List ℕ). b ++ unclear) pieces ∙ joined (string_bytes c.args.notes.now) (codes "Line:\n") source words unclear) c.push_unclear_words.ensures
