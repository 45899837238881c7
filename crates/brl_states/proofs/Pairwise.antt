-- A relation that holds of any two members of a list, the earlier one first.
use Rattle.std.proofs.Common.{◌≡◌, ℕ, zero, suc, ◌<◌, Bool, true, false, List, [], ◌∷◌, ◌++◌, Some, arith, cond, filter, subst, sym, inl, inr, refl, slice_get, map}
use Rattle.std.specs.Bool.{⊤}
use Rattle.std.specs.List.{AllByRecursion, flat_map}
use Rattle.brl_pairs.proofs.Listing.{IsIn, in-append, in-right, from-flat_map, at-in}

abbrev pub Pairwise : {X : Type 0} → (X → X → Type 0) → List X → Type 0
Pairwise R [] = ⊤
Pairwise R (x ∷ xs) = AllByRecursion (R x) xs × Pairwise R xs

all-in : {X : Type 0} (P : X → Type 0) (xs : List X) → ((x : X) → IsIn x xs → P x) → AllByRecursion P xs
all-in P [] h = tt
all-in P (x ∷ xs) h = (h x (inl refl), all-in P xs (λ y i. h y (inr i)))

in-all : {X : Type 0} (P : X → Type 0) (xs : List X) (x : X) → AllByRecursion P xs → IsIn x xs → P x
in-all P [] x a h = absurd h
in-all P (y ∷ xs) x a (inl e) = subst (λ z. P z) (let back : y ≡ x = cc in back) a.0
in-all P (y ∷ xs) x a (inr h) = in-all P xs x a.1 h

pub append-Pairwise : {X : Type 0} (R : X → X → Type 0) (xs ys : List X) → Pairwise R xs → Pairwise R ys → ((x y : X) → IsIn x xs → IsIn y ys → R x y) → Pairwise R (xs ++ ys)
append-Pairwise R [] ys h k between = k
append-Pairwise R (x ∷ xs) ys h k between = (
  all-in (R x) (xs ++ ys) (λ z q. elim (in-append z xs ys q) [ inl a ↦ in-all (R x) xs z h.0 a | inr b ↦ between x z (inl refl) b ]),
  append-Pairwise R xs ys h.1 k (λ a b i j. between a b (inr i) j),
)

pub between-Pairwise : {X : Type 0} (R : X → X → Type 0) (xs ys : List X) → Pairwise R (xs ++ ys) → (x y : X) → IsIn x xs → IsIn y ys → R x y
between-Pairwise R [] ys h x y i j = absurd i
between-Pairwise R (z ∷ xs) ys h x y (inl e) j = subst (λ w. R w y) (sym e) (in-all (R z) (xs ++ ys) y h.0 (in-right y xs ys j))
between-Pairwise R (z ∷ xs) ys h x y (inr i) j = between-Pairwise R xs ys h.1 x y i j

pub filter-Pairwise : {X : Type 0} (R : X → X → Type 0) (p : X → Bool) (xs : List X) → Pairwise R xs → Pairwise R (filter p xs)
filter-Pairwise R p [] h = tt
filter-Pairwise {X = X} R p (x ∷ xs) h = at (p x) (filter-Pairwise R p xs h.1)
  where
    passing : (P : X → Type 0) (b : Bool) (y : X) (ys : List X) → P y → AllByRecursion P ys → AllByRecursion P (cond b (y ∷ ys) ys)
    passing P true y ys k ks = (k, ks)
    passing P false y ys k ks = ks

    all-passing : (P : X → Type 0) (ys : List X) → AllByRecursion P ys → AllByRecursion P (filter p ys)
    all-passing P [] k = tt
    all-passing P (y ∷ ys) k = passing P (p y) y (filter p ys) k.0 (all-passing P ys k.1)

    at : (b : Bool) → Pairwise R (filter p xs) → Pairwise R (cond b (x ∷ filter p xs) (filter p xs))
    at true k = (all-passing (R x) xs h.0, k)
    at false k = k

pub flat_map-Pairwise : {X Y : Type 0} (R : X → X → Type 0) (S : Y → Y → Type 0) (f : X → List Y) (xs : List X) → Pairwise R xs → ((x : X) → IsIn x xs → Pairwise S (f x))
    → ((x x' : X) (y y' : Y) → R x x' → IsIn y (f x) → IsIn y' (f x') → S y y') → Pairwise S (flat_map f xs)
flat_map-Pairwise R S f [] h each between = tt
flat_map-Pairwise R S f (x ∷ xs) h each between =
    append-Pairwise S (f x) (flat_map f xs) (each x (inl refl)) (flat_map-Pairwise R S f xs h.1 (λ y i. each y (inr i)) between)
    (λ y z i j. (let m = from-flat_map f z xs j in between x m.0 y z (in-all (R x) xs m.0 h.0 m.1) i m.2))

pub map-Pairwise : {X Y : Type 0} (R : X → X → Type 0) (S : Y → Y → Type 0) (f : X → Y) (xs : List X) → Pairwise R xs → ((x x' : X) → R x x' → S (f x) (f x')) → Pairwise S (map f xs)
map-Pairwise R S f [] h between = tt
map-Pairwise R S f (x ∷ xs) h between = (mapped (R x) (S (f x)) f xs h.0 (λ z k. between x z k), map-Pairwise R S f xs h.1 between)
  where
    mapped : {X Y : Type 0} (P : X → Type 0) (Q : Y → Type 0) (f : X → Y) (xs : List X) → AllByRecursion P xs → ((x : X) → P x → Q (f x)) → AllByRecursion Q (map f xs)
    mapped P Q f [] h k = tt
    mapped P Q f (x ∷ xs) h k = (k x h.0, mapped P Q f xs h.1 k)

-- a relation that follows for members
pub weaken-Pairwise : {X : Type 0} (R S : X → X → Type 0) (xs : List X) → Pairwise R xs → ((x y : X) → IsIn x xs → IsIn y xs → R x y → S x y) → Pairwise S xs
weaken-Pairwise R S [] h k = tt
weaken-Pairwise R S (x ∷ xs) h k = (
  all-in (S x) xs (λ y i. k x y (inl refl) (inr i) (in-all (R x) xs y h.0 i)),
  weaken-Pairwise R S xs h.1 (λ y z i j r. k y z (inr i) (inr j) r),
)

-- members by their places
pub at-Pairwise : {X : Type 0} (R : X → X → Type 0) (xs : List X) → ((i j : ℕ) (x y : X) → i < j → slice_get xs i ≡ Some x → slice_get xs j ≡ Some y → R x y) → Pairwise R xs
at-Pairwise R [] h = tt
at-Pairwise R (x ∷ xs) h = (from (R x) xs (λ j y q. h 0 (suc j) x y (omega arith) refl q), at-Pairwise R xs (λ i j y z less p q. h (suc i) (suc j) y z (omega (arith, less)) p q))
  where
    from : {X : Type 0} (P : X → Type 0) (ys : List X) → ((j : ℕ) (y : X) → slice_get ys j ≡ Some y → P y) → AllByRecursion P ys
    from P [] k = tt
    from P (y ∷ ys) k = (k 0 y refl, from P ys (λ j z q. k (suc j) z q))

pub Pairwise-at : {X : Type 0} (R : X → X → Type 0) (xs : List X) → Pairwise R xs → (i j : ℕ) (x y : X) → i < j → slice_get xs i ≡ Some x → slice_get xs j ≡ Some y → R x y
Pairwise-at R [] h i j x y less p q = cc
Pairwise-at R (z ∷ zs) h i zero x y less p q = absurd (omega (arith, less))
Pairwise-at R (z ∷ zs) h zero (suc j) x y less p q = (let e : z ≡ x = cc in subst (λ v. R v y) e (in-all (R z) zs y h.0 (at-in y zs j q)))
Pairwise-at R (z ∷ zs) h (suc i) (suc j) x y less p q = Pairwise-at R zs h.1 i j x y (omega (arith, less)) p q
