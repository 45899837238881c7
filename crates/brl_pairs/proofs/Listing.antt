-- Members of lists and their places.
use Rattle.std.proofs.Common.{ℕ, zero, suc, ◌≡◌, ◌<◌, List, [], ◌∷◌, ◌++◌, length, map, refl, sym, ap, arith, subst, Some, ◌⊎◌, inl, inr, slice_get, slice_index_or, Contains, flat_map}

-- an element is in a list
abbrev pub IsIn : {X : Type 0} → X → List X → Type 0
IsIn x [] = ⊥
IsIn x (y ∷ ys) = (x ≡ y) ⊎ IsIn x ys

pub in-left : {X : Type 0} (x : X) (xs ys : List X) → IsIn x xs → IsIn x (xs ++ ys)
in-left x [] ys h = absurd h
in-left x (y ∷ xs) ys (inl e) = inl e
in-left x (y ∷ xs) ys (inr h) = inr (in-left x xs ys h)

pub in-right : {X : Type 0} (x : X) (xs ys : List X) → IsIn x ys → IsIn x (xs ++ ys)
in-right x [] ys h = h
in-right x (y ∷ xs) ys h = inr (in-right x xs ys h)

pub in-flat_map : {X Y : Type 0} (f : X → List Y) (x : X) (y : Y) (xs : List X) → IsIn x xs → IsIn y (f x) → IsIn y (flat_map f xs)
in-flat_map f x y [] h k = absurd h
in-flat_map f x y (z ∷ xs) (inl e) k = in-left y (f z) (flat_map f xs) (subst (λ w. IsIn y (f w)) e k)
in-flat_map f x y (z ∷ xs) (inr h) k = in-right y (f z) (flat_map f xs) (in-flat_map f x y xs h k)

-- a member of two lists joined, and of lists joined
pub in-append : {X : Type 0} (x : X) (xs ys : List X) → IsIn x (xs ++ ys) → IsIn x xs ⊎ IsIn x ys
in-append x [] ys h = inr h
in-append x (y ∷ xs) ys (inl e) = inl (inl e)
in-append x (y ∷ xs) ys (inr h) = elim (in-append x xs ys h) [ inl k ↦ inl (inr k) | inr k ↦ inr k ]

pub from-flat_map : {X Y : Type 0} (f : X → List Y) (y : Y) (xs : List X) → IsIn y (flat_map f xs) → (x : X) × IsIn x xs × IsIn y (f x)
from-flat_map f y [] h = absurd h
from-flat_map f y (z ∷ xs) h = elim (in-append y (f z) (flat_map f xs) h) [
  | inl k ↦ (z, inl refl, k)
  | inr k ↦ (let m = from-flat_map f y xs k in (m.0, inr m.1, m.2))
]

-- places and members
pub in-at : {X : Type 0} (x : X) (xs : List X) → IsIn x xs → (i : ℕ) × (slice_get xs i ≡ Some x)
in-at x [] h = absurd h
in-at x (y ∷ ys) (inl e) = (0, ap Some (sym e))
in-at x (y ∷ ys) (inr h) = (let m = in-at x ys h in (suc m.0, m.1))

pub at-in : {X : Type 0} (x : X) (xs : List X) (i : ℕ) → slice_get xs i ≡ Some x → IsIn x xs
at-in x [] i h = cc
at-in x (y ∷ ys) zero h = inl (let e : y ≡ x = cc in sym e)
at-in x (y ∷ ys) (suc i) h = inr (at-in x ys i h)

-- a member of a list, and of what a function gives for its elements
pub in-map : {X Y : Type 0} (g : X → Y) (x : X) (xs : List X) → IsIn x xs → IsIn (g x) (map g xs)
in-map g x [] h = absurd h
in-map g x (y ∷ xs) (inl e) = inl (ap g e)
in-map g x (y ∷ xs) (inr h) = inr (in-map g x xs h)

pub from-map : {X Y : Type 0} (g : X → Y) (y : Y) (xs : List X) → IsIn y (map g xs) → (x : X) × IsIn x xs × (y ≡ g x)
from-map g y [] h = absurd h
from-map g y (x ∷ xs) (inl e) = (x, inl refl, e)
from-map g y (x ∷ xs) (inr h) = (let m = from-map g y xs h in (m.0, inr m.1, m.2))

-- the same by the standard library's word
pub in-Contains : {X : Type 0} (x : X) (xs : List X) → IsIn x xs → Contains xs x
in-Contains x [] h = absurd h
in-Contains x (y ∷ ys) (inl e) = (0, omega arith, sym e)
in-Contains x (y ∷ ys) (inr h) = (let m = in-Contains x ys h in (suc m.0, (let less = m.1 in omega (arith, less)), m.2))

pub Contains-in : {X : Type 0} (x : X) (xs : List X) → Contains xs x → IsIn x xs
Contains-in x xs h = at x xs h.0 h.1 h.2
  where
    at : {X : Type 0} (x : X) (xs : List X) (k : ℕ) → k < length xs → slice_index_or xs k x ≡ x → IsIn x xs
    at x [] k less e = absurd (omega (arith, less))
    at x (y ∷ ys) zero less e = inl (sym e)
    at x (y ∷ ys) (suc k) less e = inr (at x ys k (omega (arith, less)) e)
