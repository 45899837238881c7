-- The names of files, without repetitions.
use Rattle.std.proofs.Common.{ℕ, ◌+◌, ◌<◌, ◌≡◌, Bool, true, false, cond, List, [], ◌∷◌, ◌++◌, length, map, take, refl, sym, ◌∙◌, ap, Option, Some, None, get_or, String, position, string_bytes, is_some, not, Global, bytes_eq}
use Rattle.brl_lines.specs.Tokens.{LineView}
use Rattle.brl_lines.specs.Views.{line_view}
use Rattle.brl_lines.specs.declared.line.Line.{Line}
use Rattle.std.specs.List.{position_from}
use Rattle.std.proofs.lemmas.List.{map-append, take_more}
use Rattle.std.proofs.lemmas.List.Sums.{fold-append}
use Rattle.std.proofs.lemmas.Iterator.Adapters.{position_from-zero}
use Rattle.brl_table.specs.Reading.{insert_new, dedup, files_of}

module _ {X Y : Type 0} (eq : Y → Y → Bool) (view : X → Y) (y : Y) where
  put-at : (n : ℕ) (xs : List X) (i : ℕ) → position_from (λ x. eq y (view x)) n xs ≡ Some i → insert_new eq (map view xs) y ≡ map view xs
  put-at n [] i h = cc
  put-at n (x ∷ xs) i h = cases (eq y (view x)) h (put-at (n + 1) xs i)
    where
      cases : (b : Bool) → cond b (Some n) (position_from (λ x. eq y (view x)) (n + 1) xs) ≡ Some i
          → (position_from (λ x. eq y (view x)) (n + 1) xs ≡ Some i → insert_new eq (map view xs) y ≡ map view xs)
          → cond b (view x ∷ map view xs) (view x ∷ insert_new eq (map view xs) y) ≡ view x ∷ map view xs
      cases true k more = refl
      cases false k more = ap (λ ys. view x ∷ ys) (more k)

  put-last : (n : ℕ) (xs : List X) → position_from (λ x. eq y (view x)) n xs ≡ None → insert_new eq (map view xs) y ≡ map view xs ++ y ∷ []
  put-last n [] h = refl
  put-last n (x ∷ xs) h = cases (eq y (view x)) h (put-last (n + 1) xs)
    where
      cases : (b : Bool) → cond b (Some n) (position_from (λ x. eq y (view x)) (n + 1) xs) ≡ None
          → (position_from (λ x. eq y (view x)) (n + 1) xs ≡ None → insert_new eq (map view xs) y ≡ map view xs ++ y ∷ [])
          → cond b (view x ∷ map view xs) (view x ∷ insert_new eq (map view xs) y) ≡ view x ∷ (map view xs ++ y ∷ [])
      cases true k more = cc
      cases false k more = ap (λ ys. view x ∷ ys) (more k)

  -- a name that is in the list changes nothing, and another is added last
  pub put-there : (xs : List X) (i : ℕ) → position (λ x. eq y (view x)) xs ≡ Some i → insert_new eq (map view xs) y ≡ map view xs
  put-there xs i h = put-at 0 xs i (sym (position_from-zero (λ x. eq y (view x)) xs) ∙ h)

  pub put-absent : (xs : List X) → position (λ x. eq y (view x)) xs ≡ None → insert_new eq (map view xs) y ≡ map view xs ++ y ∷ []
  put-absent xs h = put-last 0 xs (sym (position_from-zero (λ x. eq y (view x)) xs) ∙ h)

-- one more element
pub once-more : {X : Type 0} (eq : X → X → Bool) (xs : List X) (x : X) → dedup eq (xs ++ x ∷ []) ≡ insert_new eq (dedup eq xs) x
once-more eq xs x = fold-append (insert_new eq) [] xs (x ∷ [])

-- ---- one more line, whose file is known or new

module _ (files after : List (String Global)) (lines : List LineView) (line : LineView) where
  pub next-file : (found : Option ℕ) → found ≡ position (λ other. bytes_eq line.file (string_bytes other)) files → (b : Bool) → is_some found ≡ not b → b ≡ false
      → after ≡ files → map string_bytes files ≡ files_of lines → map string_bytes after ≡ files_of (lines ++ line ∷ [])
  next-file None e b t h is inv = cc
  next-file (Some i) e b t h is inv =
      ap (map string_bytes) is ∙ sym (put-there bytes_eq string_bytes line.file files i (sym e)) ∙ ap (λ fs. insert_new bytes_eq fs line.file) inv
      ∙ sym (once-more bytes_eq (map (λ l. l.file) lines) line.file) ∙ ap (dedup bytes_eq) (sym (map-append (λ l. l.file) lines (line ∷ [])))

  pub next-new_file : (found : Option ℕ) → found ≡ position (λ other. bytes_eq line.file (string_bytes other)) files → (b : Bool) → is_some found ≡ not b → b ≡ true
      → (name : String Global) → string_bytes name ≡ line.file → after ≡ files ++ name ∷ [] → map string_bytes files ≡ files_of lines
      → map string_bytes after ≡ files_of (lines ++ line ∷ [])
  next-new_file (Some i) e b t h name named is inv = cc
  next-new_file None e b t h name named is inv =
      ap (map string_bytes) is ∙ map-append string_bytes files (name ∷ []) ∙ ap (λ n. map string_bytes files ++ n ∷ []) named
      ∙ sym (put-absent bytes_eq string_bytes line.file files (sym e)) ∙ ap (λ fs. insert_new bytes_eq fs line.file) inv
      ∙ sym (once-more bytes_eq (map (λ l. l.file) lines) line.file) ∙ ap (dedup bytes_eq) (sym (map-append (λ l. l.file) lines (line ∷ [])))

-- the lines up to the next one of a loop
pub lines-more : (lines : List Line) (i : ℕ) (line : Line) → i < length lines → line ≡ get_or lines i line → map line_view (take (i + 1) lines) ≡ map line_view (take i lines) ++ line_view line ∷ []
lines-more lines i line within is =
    ap (map line_view) (take_more lines i line within ∙ ap (λ l. take i lines ++ l ∷ []) (sym is)) ∙ map-append line_view (take i lines) (line ∷ [])
