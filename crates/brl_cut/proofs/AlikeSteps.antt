-- What is left of two texts, or of two lists of files, that are compared.
use Rattle.std.proofs.Common.{◌≡◌, ◌∙◌, ◌-◌, ◌<◌, ◌≤◌, ◌==◌, ℕ, Bool, true, false, cond, nat_eq, List, [], ◌∷◌, arith, drop, length, map, refl, sym, length-drop}
use Rattle.std.proofs.lemmas.Bool.{eq-eqb}
use Rattle.std.proofs.lemmas.Bool.Decides.{nat_tests}
use Rattle.std.proofs.lemmas.List.{at_drop_all}
use Rattle.brl_lines.specs.Rows.{onto}
use Rattle.brl_lines.specs.declared.gathering.GatheredFile.{GatheredFile}
use Rattle.brl_cut.specs.Alike.{are_alike, keep_files}
use Rattle.brl_cut.specs.Edits.{whole_lines}
use Rattle.brl_cut.specs.Files.{file_view}

-- two texts, and two lists of files
abbrev pub texts_alike : List ℕ → List ℕ → Bool
texts_alike text other = are_alike (whole_lines text) (whole_lines other)

abbrev pub files_kept : List GatheredFile → List GatheredFile → Bool
files_kept files others = keep_files (map file_view files) (map file_view others)

-- lines are left of one text alone
pub lines-left : (b : ℕ) (bs : List ℕ) → (texts_alike (b ∷ bs) [] ≡ false) × (texts_alike [] (b ∷ bs) ≡ false)
lines-left b bs = by_feed (b == 10) (whole_lines bs)
  where
    by_feed : (feed : Bool) (lines : List (List ℕ))
        → (are_alike (cond feed ((b ∷ []) ∷ lines) (onto b lines)) [] ≡ false) × (are_alike [] (cond feed ((b ∷ []) ∷ lines) (onto b lines)) ≡ false)
    by_feed true lines = (refl, refl)
    by_feed false [] = (refl, refl)
    by_feed false (line ∷ lines) = (refl, refl)

-- a comparison that holds where nothing is left of both, and not where something is left of one
-- alone
module _ {X : Type 0} (alike : List X → List X → Bool) (none : alike [] [] ≡ true)
    (one : (x : X) (left : List X) → (alike (x ∷ left) [] ≡ false) × (alike [] (x ∷ left) ≡ false))
    (xs others : List X) (at there : ℕ) where
  pub more-left : at < length xs → there ≡ length others → alike (drop at xs) (drop there others) ≡ false
  more-left before ends = at_drop_all (alike (drop at xs)) others there (omega (arith, ends)) ∙ by_left (drop at xs) (length-drop at xs)
    where
      by_left : (left : List X) → length left ≡ length xs - at → alike left [] ≡ false
      by_left [] size = absurd (omega (arith, size, before))
      by_left (x ∷ left) size = (one x left).0

  pub none-left : length xs ≤ at → there ≤ length others → alike (drop at xs) (drop there others) ≡ nat_eq there (length others)
  none-left past within = at_drop_all (λ left. alike left (drop there others)) xs at past ∙ by_left (drop there others) (length-drop there others)
    where
      by_left : (left : List X) → length left ≡ length others - there → alike [] left ≡ nat_eq there (length others)
      by_left [] size = none ∙ sym (eq-eqb there (length others) (omega (arith, size, within)))
      by_left (x ∷ left) size = (let other : nat_eq there (length others) ≡ false = grind (arith, nat_tests, size) in (one x left).1 ∙ sym other)
