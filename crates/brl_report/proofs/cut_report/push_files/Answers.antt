use Rattle.std.proofs.Common.{◌≡◌, ◌∙◌, ◌+◌, ◌++◌, ◌∷◌, ℕ, List, [], ap, append-nil, append_assoc, flat_map, map, string_bytes, sym, take}
use Rattle.std.proofs.lemmas.List.{map-append, take_more}
use Rattle.std.proofs.lemmas.List.Concat.{flat_map-append}
use Rattle.brl_table.specs.Survey.{faulty_line_view}
use Rattle.brl_report.specs.Survey.{cut_file_line}
use Rattle.brl_report.proofs.cut_report.push_files.Goals as goal

pub loop-path-preserved : goal.loop-path-preserved
loop-path-preserved c =
    let file = cut_file_line (map faulty_line_view c.args.left_out.now) (map string_bytes c.args.files.now) in
    let paths = c.args.paths.now in
    let i = c.loop-path.path-index in
    let path = c.path-item.result in
    let old : List (List ℕ) = map string_bytes (take i paths) in
    let more : map string_bytes (take (i + 1) paths) ≡ old ++ string_bytes path ∷ [] =
    ap (map string_bytes) (take_more paths i path c.loop-path-test.true ∙ ap (λ p. take i paths ++ p ∷ []) (sym c.path-item.is)) ∙ map-append string_bytes (take i paths) (path ∷ []) in
    c.in_ok-push_file.ensures ∙ ap (λ (t : List ℕ). t ++ file c.as_str.result.now) c.loop-path.invariant
    ∙ append_assoc (string_bytes c.args.text.now) (flat_map file old) (file c.as_str.result.now)
    ∙ ap (λ (rest : List ℕ). string_bytes c.args.text.now ++ rest)
    (ap (λ (p : List ℕ). flat_map file old ++ file p) c.as_str.ensures.value ∙ ap (λ (tail : List ℕ). flat_map file old ++ tail) (sym (append-nil (file (string_bytes path))))
    ∙ sym (flat_map-append file old (string_bytes path ∷ [])) ∙ ap (flat_map file) (sym more))
