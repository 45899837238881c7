-- The folder of a path, by its last byte.
use Rattle.std.proofs.Common.{◌≡◌, ◌≢◌, ℕ, ◌+◌, ◌-◌, ◌<◌, ◌≤◌, Bool, true, false, cond, ◌||◌, nat_eq, List, [], ◌∷◌, ◌++◌, length, get_or, take, refl, ap, sym, ◌∙◌, subst, arith, IsUtf8}
use Rattle.std.proofs.lemmas.List.{take_more}
use Rattle.std.proofs.lemmas.Str.{IsCharBoundary-after_ascii}
use Rattle.std.specs.List.{list_any, starts_with}
use Rattle.std.proofs.lemmas.Slice.Eq.{bytes_eq-Decides}
use Rattle.std.specs.Str.{IsCharBoundary, bytes_eq}
use Rattle.std.proofs.lemmas.Bool.{or_right}
use Rattle.brl_lines.proofs.RowLemmas.{not_equal}
use Rattle.brl_lines.specs.Includes.{folder_of}

some_slash : (xs : List ℕ) → list_any (λ c. nat_eq c 47) (xs ++ 47 ∷ []) ≡ true
some_slash [] = refl
some_slash (x ∷ xs) = rw (some_slash xs) (or_right (nat_eq x 47) true refl)

-- a path that ends in a slash
folder_of-slash : (xs : List ℕ) → folder_of (xs ++ 47 ∷ []) ≡ xs ++ 47 ∷ []
folder_of-slash [] = refl
folder_of-slash (x ∷ xs) = rw (some_slash xs, or_right (nat_eq x 47) true refl, folder_of-slash xs) refl

no_slash : (xs : List ℕ) (b : ℕ) → nat_eq b 47 ≡ false → list_any (λ c. nat_eq c 47) (xs ++ b ∷ []) ≡ list_any (λ c. nat_eq c 47) xs
no_slash [] b e = rw e refl
no_slash (x ∷ xs) b e = rw (no_slash xs b e) refl

-- any other last byte
folder_of-other : (xs : List ℕ) (b : ℕ) → nat_eq b 47 ≡ false → folder_of (xs ++ b ∷ []) ≡ folder_of xs
folder_of-other [] b e = rw e refl
folder_of-other (x ∷ xs) b e = rw (no_slash xs b e, folder_of-other xs b e) refl

module _ (path : List ℕ) (end : ℕ) (some : 0 < end) (within : end ≤ length path) where
  last : take end path ≡ take (end - 1) path ++ get_or path (end - 1) 0 ∷ []
  last =
      let here : end - 1 < length path = omega arith in
      let more : (end - 1) + 1 ≡ end = omega arith in
      ap (λ n. take n path) (sym more) ∙ take_more path (end - 1) 0 here

  pub folder_of-less : get_or path (end - 1) 0 ≢ 47 → folder_of (take end path) ≡ folder_of path → folder_of (take (end - 1) path) ≡ folder_of path
  folder_of-less h before = sym (folder_of-other (take (end - 1) path) (get_or path (end - 1) 0) (not_equal _ _ h)) ∙ ap folder_of (sym last) ∙ before

  pub folder_of-here : get_or path (end - 1) 0 ≡ 47 → folder_of (take end path) ≡ folder_of path → take end path ≡ folder_of path
  folder_of-here h before =
      let ends : take end path ≡ take (end - 1) path ++ 47 ∷ [] = last ∙ ap (λ b. take (end - 1) path ++ b ∷ []) h in
      ends ∙ sym (folder_of-slash (take (end - 1) path)) ∙ ap folder_of (sym ends) ∙ before

  -- after a slash a text may be cut
  pub boundary-slash : IsUtf8 path → get_or path (end - 1) 0 ≡ 47 → IsCharBoundary path end
  boundary-slash utf8 h =
      let here : end - 1 < length path = omega arith in
      let more : (end - 1) + 1 ≡ end = omega arith in
      let ascii : get_or path (end - 1) 0 < 128 = omega arith in
      subst (λ n. IsCharBoundary path n) more (IsCharBoundary-after_ascii path (end - 1) utf8 here ascii)

-- a path that was cut off at its front has no folder
pub folder_of-none : (path : List ℕ) (end : ℕ) → end ≤ 0 → folder_of (take end path) ≡ folder_of path → take end path ≡ folder_of path
folder_of-none path end none before = let e : end ≡ 0 = omega arith in rw e (rw e at before)

pub take_front : (path : List ℕ) (end : ℕ) → take (end - 0) path ≡ take end path
take_front path end = let same : end - 0 ≡ end = omega arith in ap (λ n. take n path) same

-- a path begins with its folder
folder-first : (path : List ℕ) → take (length (folder_of path)) path ≡ folder_of path
folder-first [] = refl
folder-first (b ∷ bs) = by_test (nat_eq b 47 || list_any (λ c. nat_eq c 47) bs) (folder-first bs)
  where
    by_test : (t : Bool) → take (length (folder_of bs)) bs ≡ folder_of bs → take (length (cond t (b ∷ folder_of bs) [])) (b ∷ bs) ≡ cond t (b ∷ folder_of bs) []
    by_test true h = ap (λ (l : List ℕ). b ∷ l) h
    by_test false h = refl

pub folder-starts : (path : List ℕ) → starts_with nat_eq path (folder_of path) ≡ true
folder-starts path = ap (bytes_eq (folder_of path)) (folder-first path) ∙ (bytes_eq-Decides (folder_of path) (folder_of path)).1 refl
