-- Files that are left to be placed.
use Rattle.std.proofs.Common.{◌≡◌, ◌∙◌, ℕ, ◌≤◌, List, [], ◌∷◌, ap, drop, length, map, min, refl, string_bytes, zip, arith, inl, inr}
use Rattle.std.proofs.lemmas.Bool.{cases_lt}
use Rattle.std.proofs.lemmas.List.{drop_all}
use Rattle.std.specs.Global.{Global}
use Rattle.std.specs.Prelude.{String}
use Rattle.brl_lines.specs.declared.gathering.GatheredFile.{GatheredFile}
use Rattle.brl_cut.specs.Files.{file_view}

no-files : (names : List (List ℕ)) → zip {K = List ℕ} {X = List ℕ × List ℕ} names [] ≡ []
no-files [] = refl
no-files (name ∷ names) = refl

-- no file is left, with its name
pub zip-none : (names : List (String Global)) (files : List GatheredFile) (i : ℕ) → i ≡ min (length names) (length files) → zip (map string_bytes (drop i names)) (map file_view (drop i files)) ≡ []
zip-none names files i e =
    elim (cases_lt (length files) (length names)) [
      | inl fewer ↦
          (let past : length files ≤ i = omega arith in
          ap (λ (fs : List GatheredFile). zip (map string_bytes (drop i names)) (map file_view fs)) (drop_all i files past)
          ∙ no-files (map string_bytes (drop i names)))
      | inr more ↦
          (let past : length names ≤ i = omega arith in
          ap (λ (ns : List (String Global)). zip (map string_bytes ns) (map file_view (drop i files))) (drop_all i names past))
    ]
