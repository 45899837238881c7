-- Lists with the places of their items, read one after the other.
use Rattle.std.proofs.Common.{◌≡◌, ◌∙◌, ◌+◌, ◌<◌, ◌≤◌, ◌++◌, ℕ, List, [], ◌∷◌, ap, append-nil, arith, flat_map, get_or, length, sym, take}
use Rattle.std.specs.List.{enumerate_from}
use Rattle.std.proofs.lemmas.List.{take_all, take_more}
use Rattle.std.proofs.lemmas.List.Concat.{flat_map-append}
use Rattle.std.proofs.lemmas.List.FromFn.{get_or-enumerate_from, length-enumerate_from}

module _ {X Y : Type 0} (gives : ℕ × X → List Y) (xs : List X) (i : ℕ) where
  -- what one more item gives
  pub one_more : (x : X) (old new : List Y) → i < length xs → get_or xs i x ≡ x → old ≡ flat_map gives (take i (enumerate_from 0 xs)) → new ≡ old ++ gives (i, x)
      → new ≡ flat_map gives (take (i + 1) (enumerate_from 0 xs))
  one_more x old new within is so_far added =
      let numbered = enumerate_from 0 xs in
      let inside : i < length numbered = omega (arith, within, length-enumerate_from 0 xs) in
      let number : 0 + i ≡ i = omega arith in
      let entry : get_or numbered i (0, x) ≡ (i, x) = get_or-enumerate_from 0 xs i (0, x) within ∙ (λ j. (number j, is j)) in
      let next : take (i + 1) numbered ≡ take i numbered ++ (i, x) ∷ [] = take_more numbered i (0, x) inside ∙ ap (λ (e : ℕ × X). take i numbered ++ e ∷ []) entry in
      added ∙ ap (λ (ys : List Y). ys ++ gives (i, x)) so_far
      ∙ ap (λ (ys : List Y). flat_map gives (take i numbered) ++ ys) (sym (append-nil (gives (i, x))))
      ∙ sym (flat_map-append gives (take i numbered) ((i, x) ∷ [])) ∙ ap (flat_map gives) (sym next)

  -- what all items give
  pub all_items : length xs ≤ i → flat_map gives (take i (enumerate_from 0 xs)) ≡ flat_map gives (enumerate_from 0 xs)
  all_items past = ap (flat_map gives) (take_all i (enumerate_from 0 xs) (omega (arith, past, length-enumerate_from 0 xs)))
