-- What a test keeps of a list where that is in one piece, between two places that are searched for.
use Rattle.std.proofs.Common.{◌≡◌, ℕ, zero, suc, ◌+◌, ◌-◌, ◌≤◌, Bool, true, false, ◌&&◌, List, [], ◌∷◌, length, filter, take, drop, get_or, refl, sym, ap, ◌∙◌, cond, arith}
use Rattle.std.proofs.lemmas.List.{get_or-drop, length-drop, take_rest}
use Rattle.std.specs.List.{AllWithin, list_all}
use Rattle.std.specs.List.Sorted.{IsPartitionPoint}

module _ {X : Type 0} (p : X → Bool) where
  pub filter-from : (xs : List X) (i : ℕ) → AllWithin (λ y. p y ≡ false) xs 0 i → filter p xs ≡ filter p (drop i xs)
  filter-from xs zero h = refl
  filter-from [] (suc i) h = refl
  filter-from (x ∷ xs) (suc i) h =
      ap (λ b. cond b (x ∷ filter p xs) (filter p xs)) (h zero x (omega arith) (omega arith))
      ∙ filter-from xs i (λ k d le lt. h (suc k) d (omega arith) (omega (arith, lt)))

  filter-none : (xs : List X) → AllWithin (λ y. p y ≡ false) xs 0 (length xs) → filter p xs ≡ []
  filter-none [] h = refl
  filter-none (x ∷ xs) h =
      ap (λ b. cond b (x ∷ filter p xs) (filter p xs)) (h zero x (omega arith) (omega arith))
      ∙ filter-none xs (λ k d le lt. h (suc k) d (omega arith) (omega (arith, lt)))

  pub filter-upto : (xs : List X) (j : ℕ) → j ≤ length xs → AllWithin (λ y. p y ≡ true) xs 0 j → AllWithin (λ y. p y ≡ false) xs j (length xs) → filter p xs ≡ take j xs
  filter-upto xs zero le h k = filter-none xs k
  filter-upto [] (suc j) le h k = absurd (omega (arith, le))
  filter-upto (x ∷ xs) (suc j) le h k =
      ap (λ b. cond b (x ∷ filter p xs) (filter p xs)) (h zero x (omega arith) (omega arith))
      ∙ ap (λ l. x ∷ l) (filter-upto xs j (omega (arith, le)) (λ m d lo lt. h (suc m) d (omega arith) (omega (arith, lt))) (λ m d lo lt. k (suc m) d (omega (arith, lo)) (omega (arith, lt))))

  pub all-upto : (xs : List X) (i : ℕ) → AllWithin (λ y. p y ≡ true) xs i (length xs) → list_all p (take i xs) ≡ list_all p xs
  all-upto [] zero h = refl
  all-upto [] (suc i) h = refl
  all-upto (x ∷ xs) zero h = sym (ap (λ b. b && list_all p xs) (h zero x (omega arith) (omega arith)) ∙ sym (all-upto xs zero (λ m d lo lt. h (suc m) d (omega arith) (omega (arith, lt)))))
  all-upto (x ∷ xs) (suc i) h = ap (λ b. p x && b) (all-upto xs i (λ m d lo lt. h (suc m) d (omega (arith, lo)) (omega (arith, lt))))

  -- what comes before the first place passes the test `early`, and what comes after the last one
  -- fails the test `within`
  module _ (early within : X → Bool) (before : (x : X) → early x ≡ true → p x ≡ false)
      (between : (x : X) → early x ≡ false → within x ≡ true → p x ≡ true) (behind : (x : X) → within x ≡ false → p x ≡ false) where
    pub filter-between : (xs rest : List X) (i j : ℕ) → rest ≡ take (length xs - i) (drop i xs) → j ≤ length rest → IsPartitionPoint (λ x. early x ≡ true) (λ x. early x ≡ false) xs i
        → IsPartitionPoint (λ x. within x ≡ true) (λ x. within x ≡ false) rest j → take j rest ≡ filter p xs
    filter-between xs rest i j is short first last =
        let whole : rest ≡ drop i xs = is ∙ take_rest xs i in
        let size : length rest ≡ length xs - i = ap length whole ∙ length-drop i xs in
        sym
        (filter-from xs i (λ k d lo lt. before (get_or xs k d) (first.0 k d lo lt))
        ∙ ap (filter p) (sym whole)
        ∙ filter-upto rest j short
        (λ k d lo lt. between (get_or rest k d)
        (ap early (ap (λ l. get_or l k d) whole ∙ get_or-drop i xs k d) ∙ first.1 (i + k) d (omega arith) (omega (arith, lt, short, size)))
        (last.0 k d lo lt))
        (λ k d lo lt. behind (get_or rest k d) (last.1 k d lo lt)))
