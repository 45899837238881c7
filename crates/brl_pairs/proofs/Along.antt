-- Two lists whose elements are related place by place, and lists whose elements ascend by a number.
use Rattle.std.proofs.Common.{◌≡◌, ℕ, zero, suc, ◌<◌, ◌≤◌, Bool, true, false, not, ◌&&◌, cond, nat_eq, List, [], ◌∷◌, ◌++◌, filter, length, Some, slice_get, inl, inr, refl, sym, ◌∙◌, ap, ap₂, subst, arith, eq-eqb, ne_eqb, is_lt, nat_cmp, Less, Equal, Greater}
use Rattle.std.proofs.lemmas.List.Elements.{filter_agree}
use Rattle.std.specs.Cmp.{nat_cmp_is}
use Rattle.std.specs.List.{AllByRecursion, AllZip, flat_map}
use Rattle.std.specs.List.Sorted.{IsStableByKey, ties}
use Rattle.brl_pairs.proofs.Lists.{three_ways}

-- each element's number is at most those of the elements after it
abbrev pub Ascends : {X : Type 0} → (X → ℕ) → List X → Type 0
Ascends f [] = Unit {0}
Ascends f (x ∷ xs) = AllByRecursion (λ z. f x ≤ f z) xs × Ascends f xs

-- the elements with this number
abbrev pub with_number : {X : Type 0} → (X → ℕ) → ℕ → List X → List X
with_number f k xs = filter (λ x. nat_eq k (f x)) xs

module _ {X Y : Type 0} (R : X → Y → Type 0) where
  pub along-each : (xs : List X) (ys : List Y) → length ys ≡ length xs → ((k : ℕ) (x : X) (y : Y) → slice_get xs k ≡ Some x → slice_get ys k ≡ Some y → R x y) → AllZip R xs ys
  along-each [] [] many h = tt
  along-each [] (y ∷ ys) many h = absurd (omega (arith, many))
  along-each (x ∷ xs) [] many h = absurd (omega (arith, many))
  along-each (x ∷ xs) (y ∷ ys) many h = (h 0 x y refl refl, along-each xs ys (omega (arith, many)) (λ k a b at there. h (suc k) a b at there))

  pub along-at : (xs : List X) (ys : List Y) → AllZip R xs ys → (k : ℕ) (x : X) (y : Y) → slice_get xs k ≡ Some x → slice_get ys k ≡ Some y → R x y
  along-at [] ys h k x y at there = cc
  along-at (a ∷ xs) [] h k x y at there = cc
  along-at (a ∷ xs) (b ∷ ys) h zero x y at there = (let e : a ≡ x = cc in let d : b ≡ y = cc in subst (λ z. R x z) d (subst (λ z. R z b) e h.0))
  along-at (a ∷ xs) (b ∷ ys) h (suc k) x y at there = along-at xs ys h.1 k x y at there

  pub along-length : (xs : List X) (ys : List Y) → AllZip R xs ys → length ys ≡ length xs
  along-length [] [] h = refl
  along-length [] (y ∷ ys) h = absurd h
  along-length (x ∷ xs) [] h = absurd h
  along-length (x ∷ xs) (y ∷ ys) h = ap suc (along-length xs ys h.1)

  pub along-append : (xs us : List X) (ys vs : List Y) → AllZip R xs ys → AllZip R us vs → AllZip R (xs ++ us) (ys ++ vs)
  along-append [] us [] vs h more = more
  along-append [] us (y ∷ ys) vs h more = absurd h
  along-append (x ∷ xs) us [] vs h more = absurd h
  along-append (x ∷ xs) us (y ∷ ys) vs h more = (h.0, along-append xs us ys vs h.1 more)

  -- what functions give for related elements
  pub along-flat_map : {A B : Type 0} (Q : A → B → Type 0) (f : A → List X) (g : B → List Y) → ((a : A) (b : B) → Q a b → AllZip R (f a) (g b)) → (us : List A) (vs : List B) → AllZip Q us vs → AllZip R (flat_map f us) (flat_map g vs)
  along-flat_map Q f g each [] [] h = tt
  along-flat_map Q f g each [] (b ∷ vs) h = absurd h
  along-flat_map Q f g each (a ∷ us) [] h = absurd h
  along-flat_map Q f g each (a ∷ us) (b ∷ vs) h = along-append (f a) (flat_map f us) (g b) (flat_map g vs) (each a b h.0) (along-flat_map Q f g each us vs h.1)

  -- those that pass a test, where of related elements both pass it or neither
  pub along-filter : (p : X → Bool) (q : Y → Bool) → ((x : X) (y : Y) → R x y → q y ≡ p x) → (xs : List X) (ys : List Y) → AllZip R xs ys → AllZip R (filter p xs) (filter q ys)
  along-filter p q alike [] [] h = tt
  along-filter p q alike [] (y ∷ ys) h = absurd h
  along-filter p q alike (x ∷ xs) [] h = absurd h
  along-filter p q alike (x ∷ xs) (y ∷ ys) h = at (p x) (q y) (alike x y h.0) (along-filter p q alike xs ys h.1)
    where
      at : (a b : Bool) → b ≡ a → AllZip R (filter p xs) (filter q ys) → AllZip R (cond a (x ∷ filter p xs) (filter p xs)) (cond b (y ∷ filter q ys) (filter q ys))
      at true true e more = (h.0, more)
      at true false e more = cc
      at false true e more = cc
      at false false e more = more

-- ---- Ascending lists

module _ {X : Type 0} (f : X → ℕ) where
  none-below : (k m : ℕ) (xs : List X) → k < m → AllByRecursion (λ z. m ≤ f z) xs → with_number f k xs ≡ []
  none-below k m [] less h = refl
  none-below k m (x ∷ xs) less h =
      let other : nat_eq k (f x) ≡ false = ne_eqb k (f x) (λ e. (let a = h.0 in omega (arith, a, e, less))) in
      ap (λ t. cond t (x ∷ with_number f k xs) (with_number f k xs)) other ∙ none-below k m xs less h.1

  own-first : (x : X) (xs : List X) → with_number f (f x) (x ∷ xs) ≡ x ∷ with_number f (f x) xs
  own-first x xs = ap (λ t. cond t (x ∷ with_number f (f x) xs) (with_number f (f x) xs)) (eq-eqb (f x) (f x) refl)

  -- from the order of any two places
  pub ascends : (xs : List X) → ((i j : ℕ) (x y : X) → i < j → slice_get xs i ≡ Some x → slice_get xs j ≡ Some y → f x ≤ f y) → Ascends f xs
  ascends [] h = tt
  ascends (x ∷ xs) h = (below xs (λ k z at. h 0 (suc k) x z (omega arith) refl at), ascends xs (λ i j a b before at there. h (suc i) (suc j) a b (omega (arith, before)) at there))
    where
      below : (zs : List X) → ((k : ℕ) (z : X) → slice_get zs k ≡ Some z → f x ≤ f z) → AllByRecursion (λ z. f x ≤ f z) zs
      below [] g = tt
      below (z ∷ zs) g = (g 0 z refl, below zs (λ k w at. g (suc k) w at))

-- Two ascending lists are related place by place where their elements of each number are.
module _ {X Y : Type 0} (R : X → Y → Type 0) (f : X → ℕ) (g : Y → ℕ) where
  tails : (t s : Bool) → s ≡ t → (x : X) (us : List X) (y : Y) (vs : List Y) → AllZip R (cond t (x ∷ us) us) (cond s (y ∷ vs) vs) → AllZip R us vs
  tails true true e x us y vs h = h.1
  tails true false e x us y vs h = cc
  tails false true e x us y vs h = cc
  tails false false e x us y vs h = h

  pub along-ascending : (xs : List X) (ys : List Y) → Ascends f xs → Ascends g ys → ((k : ℕ) → AllZip R (with_number f k xs) (with_number g k ys)) → AllZip R xs ys
  along-ascending [] [] a b h = tt
  along-ascending [] (y ∷ ys) a b h = absurd (subst (λ (l : List Y). AllZip R [] l) (own-first g y ys) (h (g y)))
  along-ascending (x ∷ xs) [] a b h = absurd (subst (λ (l : List X). AllZip R l []) (own-first f x xs) (h (f x)))
  along-ascending (x ∷ xs) (y ∷ ys) a b h = elim (three_ways (f x) (g y)) [
    | inl less ↦ absurd (
        let none : with_number g (f x) (y ∷ ys) ≡ [] = none-below g (f x) (g y) (y ∷ ys) less ((omega arith), b.0) in
        subst (λ (l : List X). AllZip R l []) (own-first f x xs) (subst (λ (l : List Y). AllZip R (with_number f (f x) (x ∷ xs)) l) none (h (f x))))
    | inr rest ↦ elim rest [
      | inl same ↦ (
          let here : AllZip R (x ∷ with_number f (f x) xs) (y ∷ with_number g (g y) ys) =
          subst (λ (l : List Y). AllZip R (x ∷ with_number f (f x) xs) l) (ap (λ k. with_number g k (y ∷ ys)) same ∙ own-first g y ys)
          (subst (λ (l : List X). AllZip R l (with_number g (f x) (y ∷ ys))) (own-first f x xs) (h (f x))) in
          (here.0, along-ascending xs ys a.1 b.1 (λ k. tails (nat_eq k (f x)) (nat_eq k (g y)) (ap (nat_eq k) (sym same)) x (with_number f k xs) y (with_number g k ys) (h k))))
      | inr less ↦ absurd (
          let none : with_number f (g y) (x ∷ xs) ≡ [] = none-below f (g y) (f x) (x ∷ xs) less ((omega arith), a.0) in
          subst (λ (l : List Y). AllZip R [] l) (own-first g y ys) (subst (λ (l : List X). AllZip R l (with_number g (g y) (y ∷ ys))) none (h (g y))))
    ]
  ]

-- ---- Stable sorts

-- two numbers tie exactly where they are equal
tied : (a b : ℕ) → (not (is_lt (nat_cmp a b)) && not (is_lt (nat_cmp b a))) ≡ nat_eq a b
tied a b = elim (three_ways a b) [
  | inl less ↦ ap (λ o. not (is_lt o) && not (is_lt (nat_cmp b a))) (sym (nat_cmp_is a b Less less)) ∙ sym (ne_eqb a b (λ e. omega (arith, e, less)))
  | inr rest ↦ elim rest [
    | inl same ↦ ap₂ (λ o p. not (is_lt o) && not (is_lt p)) (sym (nat_cmp_is a b Equal same)) (sym (nat_cmp_is b a Equal (sym same))) ∙ sym (eq-eqb a b same)
    | inr more ↦ ap₂ (λ o p. not (is_lt o) && not (is_lt p)) (sym (nat_cmp_is a b Greater more)) (sym (nat_cmp_is b a Less more)) ∙ sym (ne_eqb a b (λ e. omega (arith, e, more)))
  ]
]

-- a stable sort by a number leaves the elements of one number as they are
pub stable_number : {X : Type 0} (f : X → ℕ) (xs ys : List X) → IsStableByKey f nat_cmp xs ys → (x : X) → with_number f (f x) ys ≡ with_number f (f x) xs
stable_number {X} f xs ys stable x =
    let test = ties (λ (a b : X). is_lt (nat_cmp (f a) (f b))) x in
    let same = filter_agree test (λ (a : X). nat_eq (f x) (f a)) (λ a. tied (f x) (f a)) in
    sym (same ys) ∙ stable x ∙ same xs
