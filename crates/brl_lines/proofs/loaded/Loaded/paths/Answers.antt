use Rattle.std.proofs.Common.{◌≡◌, ◌∙◌, ◌++◌, ◌∷◌, [], List, ℕ, ap, map, rules, string_bytes, sym, take}
use Rattle.std.proofs.lemmas.List.{map-append}
use Rattle.brl_lines.proofs.FileLemmas.{one-more-path}
use Rattle.brl_lines.specs.Files.{paths_of}
use Rattle.brl_lines.proofs.loaded.Loaded.paths.Goals as goal

pub loop-index-preserved : goal.loop-index-preserved
loop-index-preserved c =
    let files = c.self.inside.files.entries in
    let more = one-more-path files c.loop-index.index (c.unwrap.result.0.now, c.unwrap.result.1.now) (search rules) in
    let path : c.as_str.result.now ≡ string_bytes c.unwrap.result.0.now = search rules in
    ap (map (λ path. path.now)) c.in_ok-push.ensures.items
    ∙ map-append (λ path. path.now) c.loop-index.paths.items _
    ∙ ap (λ (paths : List (List ℕ)). paths ++ c.as_str.result.now ∷ []) c.loop-index.invariant
    ∙ ap (λ (p : List ℕ). paths_of (take c.loop-index.index files) ++ p ∷ []) path
    ∙ sym more
