use Rattle.std.proofs.Common.{◌≡◌, ◌≢◌, ℕ, ◌<◌, Bool, true, false, List, [], ◌∷◌, MatchBool, length, get_or, arith, rules, tests}
use Rattle.std.specs.List.{AllWithin, HoldsAt}
use Rattle.std.proofs.lemmas.Iterator.{YieldsList-from_slice, cases_from_any}
use Rattle.std.proofs.lemmas.List.{get_or_default}
use Rattle.std.proofs.lemmas.List.Elements.{All-from_all_within}
use Rattle.brl_answers.specs.Files.{path_of}
use Rattle.brl_answers.specs.Making.{IsNoneOf, IsOneOf}
use Rattle.brl_answers.specs.declared.new_files.NewFile.{NewFile}
use Rattle.brl_answers.proofs.making.is_path_of_one.Goals as goal

module _ (path : List ℕ) where
  found : (files : List NewFile) (k : ℕ) → k < length files → HoldsAt (λ file. path_of file ≡ path) files k → IsOneOf files path
  found [] k lt at = absurd (omega arith)
  found (first ∷ files) k lt at = (k, get_or (first ∷ files) k first, lt, get_or_default (first ∷ files) k _ first lt, at first)

  cases : (r : Bool) (files : List NewFile)
      → MatchBool r ((k : ℕ) × (k < length files) × HoldsAt (λ file. path_of file ≡ path) files k) (AllWithin (λ file. path_of file ≢ path) files 0 (length files)) → MatchBool r (IsOneOf files path) (IsNoneOf files path)
  cases true files (k, lt, at) = found files k lt at
  cases false files none = All-from_all_within (λ file. path_of file ≢ path) files none

pub returns : goal.returns
returns c =
    let path = c.args.path.now in
    cases path _ c.args.files.now
    (cases_from_any _ _ _ (λ file. path_of file ≡ path) (λ file. path_of file ≢ path) c.any.ensures.ran (YieldsList-from_slice _ c.iter.ensures.rest) (λ x q k. search (rules, tests)) (λ x q k. search (rules, tests)))
