-- Elements of a list by their places.
use Rattle.std.proofs.Common.{◌≡◌, ℕ, zero, suc, ◌+◌, ◌<◌, List, [], ◌∷◌, ◌++◌, ◌⊎◌, inl, inr, length, map, Some, slice_get, refl, ap, sym, ◌∙◌, subst, arith, length-append, get_or, set, replicate, take}
use Rattle.std.proofs.lemmas.Option.{slice_get_read, slice_get_within, get_or_from_slice_get}
use Rattle.std.proofs.lemmas.List.{take_more}

-- a place is before another, or it is the same, or it is after it
pub three_ways : (k l : ℕ) → (k < l) ⊎ ((k ≡ l) ⊎ (l < k))
three_ways k l = grind arith

-- of two places one is before the other
pub either_way : (k l : ℕ) → (k ≡ l → ⊥) → (k < l) ⊎ (l < k)
either_way k l apart = grind arith

module _ {X : Type 0} where
  -- an element of the longer list is one of the list, or the last
  pub push_cases : (xs : List X) (x : X) (k : ℕ) (y : X) → slice_get (xs ++ x ∷ []) k ≡ Some y → (slice_get xs k ≡ Some y) ⊎ ((k ≡ length xs) × (x ≡ y))
  push_cases [] x zero y at = inr (refl, cc)
  push_cases [] x (suc k) y at = cc
  push_cases (z ∷ xs) x zero y at = inl at
  push_cases (z ∷ xs) x (suc k) y at = elim (push_cases xs x k y at) [ inl h ↦ inl h | inr h ↦ inr (ap suc h.0, h.1) ]

  pub length_push : (xs : List X) (x : X) → length (xs ++ x ∷ []) ≡ length xs + 1
  length_push xs x = length-append xs (x ∷ [])

  -- the elements of the list are in the longer list at the same places, before the last
  pub push_before : (xs : List X) (x : X) (k : ℕ) (y : X) → slice_get xs k ≡ Some y → slice_get (xs ++ x ∷ []) k ≡ Some y
  push_before [] x k y at = cc
  push_before (z ∷ xs) x zero y at = at
  push_before (z ∷ xs) x (suc k) y at = push_before xs x k y at

  pub push_last : (xs : List X) (x : X) → slice_get (xs ++ x ∷ []) (length xs) ≡ Some x
  push_last [] x = refl
  push_last (z ∷ xs) x = push_last xs x

  -- a place within the list has an element
  pub inside : (xs : List X) (k : ℕ) → k < length xs → (x : X) × (slice_get xs k ≡ Some x)
  inside [] k lt = absurd (omega arith)
  inside (x ∷ xs) zero lt = (x, refl)
  inside (x ∷ xs) (suc k) lt = inside xs k (omega arith)

  -- a place has one element
  pub same_place : (xs : List X) (k : ℕ) (x y : X) → slice_get xs k ≡ Some x → slice_get xs k ≡ Some y → x ≡ y
  same_place xs k x y a b = cc

  -- what an index reads
  pub read_at : (xs ys : List X) (k : ℕ) (x : X) → xs ≡ ys → k < length xs → x ≡ get_or xs k x → slice_get ys k ≡ Some x
  read_at xs ys k x same lt is = subst (λ (zs : List X). slice_get zs k ≡ Some x) same (slice_get_read xs (length xs) k x refl lt is)

  -- where an element was written, it is there, and the other places have what they had
  pub set_cases : (xs : List X) (i : ℕ) (v : X) (k : ℕ) (y : X) → slice_get (set xs i v) k ≡ Some y → ((k ≡ i) × (v ≡ y)) ⊎ ((k ≡ i → ⊥) × (slice_get xs k ≡ Some y))
  set_cases [] i v k y at = cc
  set_cases (x ∷ xs) zero v zero y at = inl (refl, cc)
  set_cases (x ∷ xs) zero v (suc k) y at = inr ((λ e. cc), at)
  set_cases (x ∷ xs) (suc i) v zero y at = inr ((λ e. cc), at)
  set_cases (x ∷ xs) (suc i) v (suc k) y at = elim (set_cases xs i v k y at) [ inl h ↦ inl (ap suc h.0, h.1) | inr h ↦ inr ((λ e. h.0 (omega (arith, e))), h.1) ]

  -- all places of a list of equal elements have this one
  pub replicate_at : (n : ℕ) (x : X) (k : ℕ) (y : X) → slice_get (replicate n x) k ≡ Some y → y ≡ x
  replicate_at zero x k y at = cc
  replicate_at (suc n) x zero y at = cc
  replicate_at (suc n) x (suc k) y at = replicate_at n x k y at

-- two lists of one length with an element more each, and what holds of two elements at one place
module _ {X Y : Type 0} (xs : List X) (ys : List Y) (x : X) (y : Y) (count : length ys ≡ length xs) where
  pub count_push : length (ys ++ y ∷ []) ≡ length (xs ++ x ∷ [])
  count_push = length_push ys y ∙ ap (λ (n : ℕ). n + 1) count ∙ sym (length_push xs x)

  pub each_push : (Old New : X → Y → Type 0) → ((a : X) (b : Y) → Old a b → New a b) → ((k : ℕ) (a : X) (b : Y) → slice_get xs k ≡ Some a → slice_get ys k ≡ Some b → Old a b) → New x y
      → (k : ℕ) (a : X) (b : Y) → slice_get (xs ++ x ∷ []) k ≡ Some a → slice_get (ys ++ y ∷ []) k ≡ Some b → New a b
  each_push Old New weaker each own k a b a_at b_at = elim (push_cases xs x k a a_at) [
    | inl early ↦ elim (push_cases ys y k b b_at) [
      | inl known ↦ weaker a b (each k a b early known)
      | inr last ↦ absurd (let within = slice_get_within xs k a early in let end = last.0 in omega (arith, within, end, count))
    ]
    | inr late ↦ elim (push_cases ys y k b b_at) [
      | inl known ↦ absurd (let within = slice_get_within ys k b known in let end = late.0 in omega (arith, within, end, count))
      | inr last ↦ subst (New a) last.1 (subst (λ (z : X). New z y) late.1 own)
    ]
  ]

module _ {X Y : Type 0} (f : X → Y) where
  -- what a function gives for the elements, by their places
  pub mapped_at : (xs : List X) (k : ℕ) (x : X) → slice_get xs k ≡ Some x → slice_get (map f xs) k ≡ Some (f x)
  mapped_at [] k x at = cc
  mapped_at (z ∷ xs) zero x at = (let e : z ≡ x = cc in ap (λ w. Some (f w)) e)
  mapped_at (z ∷ xs) (suc k) x at = mapped_at xs k x at

  pub mapped_from : (xs : List X) (k : ℕ) (y : Y) → slice_get (map f xs) k ≡ Some y → (x : X) × (slice_get xs k ≡ Some x) × (f x ≡ y)
  mapped_from [] k y at = cc
  mapped_from (z ∷ xs) zero y at = (z, refl, (let e : f z ≡ y = cc in e))
  mapped_from (z ∷ xs) (suc k) y at = mapped_from xs k y at

-- the front of a list and its next element
pub take-got : {X : Type 0} (xs : List X) (k : ℕ) (x : X) → slice_get xs k ≡ Some x → take (k + 1) xs ≡ take k xs ++ x ∷ []
take-got xs k x at = take_more xs k x (slice_get_within xs k x at) ∙ ap (λ y. take k xs ++ y ∷ []) (get_or_from_slice_get xs k x x at)
