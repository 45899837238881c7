-- Lists by place: what comes before and after an element, and lists that are joined by place.
use Rattle.std.proofs.Common.{ℕ, zero, suc, ◌+◌, ◌<◌, ◌≡◌, List, [], ◌∷◌, ◌++◌, length, take, drop, refl, arith, sym, ap, ◌∙◌, Some, flat_map, slice_get}
use Rattle.std.specs.List.{enumerate_from}
use Rattle.std.proofs.lemmas.List.{length-append, nil_from_length}
use Rattle.brl_rules.proofs.Facts.{some_is}

module _ {X : Type 0} where
  -- there is an element at each place
  pub at : (xs : List X) (i : ℕ) → i < length xs → (x : X) × (slice_get xs i ≡ Some x)
  at [] i h = absurd (omega arith)
  at (x ∷ xs) zero h = (x, refl)
  at (x ∷ xs) (suc i) h = at xs i (omega arith)

  pub take-at : (xs : List X) (i : ℕ) (x : X) → slice_get xs i ≡ Some x → take (suc i) xs ≡ take i xs ++ x ∷ []
  take-at [] i x h = cc
  take-at (y ∷ ys) zero x h = ap (λ z. z ∷ []) (some_is y x h)
  take-at (y ∷ ys) (suc i) x h = ap (λ zs. y ∷ zs) (take-at ys i x h)

  pub drop-at : (xs : List X) (i : ℕ) (x : X) → slice_get xs i ≡ Some x → drop i xs ≡ x ∷ drop (suc i) xs
  drop-at [] i x h = cc
  drop-at (y ∷ ys) zero x h = ap (λ z. z ∷ ys) (some_is y x h)
  drop-at (y ∷ ys) (suc i) x h = drop-at ys i x h

-- ---- Lists that are joined by place

module _ {X Y : Type 0} (f : ℕ × X → List Y) where
  abbrev joined : ℕ → List X → List Y
  joined n xs = flat_map f (enumerate_from n xs)

  -- nothing at each place
  pub joined-none : (n : ℕ) (xs : List X) → ((place k : ℕ) (x : X) → place ≡ n + k → slice_get xs k ≡ Some x → f (place, x) ≡ []) → joined n xs ≡ []
  joined-none n [] none = refl
  joined-none n (x ∷ xs) none =
      let first : f (n, x) ≡ [] = none n 0 x (omega arith) refl in
      let more = joined-none (n + 1) xs (λ place k z e there. none place (suc k) z (omega (arith, e)) there) in
      ap (λ ys. ys ++ joined (n + 1) xs) first ∙ more

  pub each-none : (n : ℕ) (xs : List X) → joined n xs ≡ [] → (place k : ℕ) (x : X) → place ≡ n + k → slice_get xs k ≡ Some x → f (place, x) ≡ []
  each-none n [] h place k x e there = cc
  each-none n (y ∷ ys) h place zero x e there =
      let here : place ≡ n = omega (arith, e) in
      let same = some_is y x there in
      ap f (ap {B = ℕ × X} (λ p. (p, x)) here ∙ ap {B = ℕ × X} (λ z. (n, z)) (sym same)) ∙ nil_from_length (f (n, y)) (omega (arith, ap length h, length-append (f (n, y)) (joined (n + 1) ys)))
  each-none n (y ∷ ys) h place (suc k) x e there =
      each-none (n + 1) ys (nil_from_length (joined (n + 1) ys) (omega (arith, ap length h, length-append (f (n, y)) (joined (n + 1) ys)))) place k x (omega (arith, e)) there

  -- one element at a place, and nothing before it
  pub joined-first : (n : ℕ) (xs : List X) (i : ℕ) (x : X) (y : Y) → slice_get xs i ≡ Some x
      → ((place k : ℕ) (z : X) → k < i → place ≡ n + k → slice_get xs k ≡ Some z → f (place, z) ≡ [])
      → ((place : ℕ) → place ≡ n + i → f (place, x) ≡ y ∷ []) → (rest : List Y) × (joined n xs ≡ y ∷ rest)
  joined-first n [] i x y there before here = absurd (cc)
  joined-first n (z ∷ zs) zero x y there before here =
      let same = some_is z x there in
      let first : f (n, z) ≡ y ∷ [] = ap f (ap {B = ℕ × X} (λ w. (n, w)) same) ∙ here n (omega arith) in
      (joined (n + 1) zs, ap (λ ys. ys ++ joined (n + 1) zs) first)
  joined-first n (z ∷ zs) (suc i) x y there before here =
      let none : f (n, z) ≡ [] = before n 0 z (omega arith) (omega arith) refl in
      let more = joined-first (n + 1) zs i x y there
      (λ place k w less e at. before place (suc k) w (omega (arith, less)) (omega (arith, e)) at)
      (λ place e. here place (omega (arith, e))) in
      (more.0, ap (λ ys. ys ++ joined (n + 1) zs) none ∙ more.1)
