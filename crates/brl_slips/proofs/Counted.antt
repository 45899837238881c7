-- Counts in lists: of a list that is made from another, and of what is there at most once.
use Rattle.std.proofs.Common.{◌≡◌, ◌≤◌, ◌<◌, ◌+◌, ℕ, Bool, true, false, cond, not, ◌||◌, add-zero, List, [], ◌∷◌, map, sym, refl, ap, ◌∙◌, arith, length, get_or, take, drop, inl, inr}
use Rattle.std.specs.List.{count_by, list_any, position_or_len}
use Rattle.std.proofs.lemmas.Bool.{cases_Bool, cases_order}
use Rattle.std.proofs.lemmas.List.{get_or-drop, get_or-take, length-drop, length-take-le}
use Rattle.std.proofs.lemmas.List.Sums.{get_or-le-sum_by, sum_by-cons, sum_by-take-drop}

-- ---- A list that is made from another

pub count_by-cons : {X : Type 0} (p : X → Bool) (x : X) (xs : List X) → count_by p (x ∷ xs) ≡ cond (p x) 1 0 + count_by p xs
count_by-cons p x xs = sum_by-cons (λ y. cond (p y) 1 0) x xs

pub count_by-map : {X Y : Type 0} (f : X → Y) (p : Y → Bool) (xs : List X) → count_by p (map f xs) ≡ count_by (λ x. p (f x)) xs
count_by-map f p [] = refl
count_by-map f p (x ∷ xs) =
    count_by-cons p (f x) (map f xs) ∙ (ap (λ n. cond (p (f x)) 1 0 + n) (count_by-map f p xs) ∙ sym (count_by-cons (λ y. p (f y)) x xs))

pub list_any-map : {X Y : Type 0} (f : X → Y) (p : Y → Bool) (xs : List X) → list_any p (map f xs) ≡ list_any (λ x. p (f x)) xs
list_any-map f p [] = refl
list_any-map f p (x ∷ xs) = ap (λ b. p (f x) || b) (list_any-map f p xs)

pub position_or_len-map : {X Y : Type 0} (f : X → Y) (p : Y → Bool) (xs : List X) → position_or_len p (map f xs) ≡ position_or_len (λ x. p (f x)) xs
position_or_len-map f p [] = refl
position_or_len-map f p (x ∷ xs) = ap (λ n. cond (not (p (f x))) (1 + n) 0) (position_or_len-map f p xs)

-- ---- How often, and whether at all

-- where none is, the count is nothing
pub count_by_none : {X : Type 0} (p : X → Bool) (xs : List X) → list_any p xs ≡ false → count_by p xs ≡ 0
count_by_none p [] none = refl
count_by_none p (x ∷ xs) none = elim (cases_Bool (p x)) [
  | inl is ↦ cc
  | inr isnt ↦ omega (arith, count_by-cons p x xs, ap {B = ℕ} (λ b. cond b 1 0) isnt, count_by_none p xs (sym (ap (λ b. b || list_any p xs) isnt) ∙ none))
]

-- where one is, it is something
pub count_by_some : {X : Type 0} (p : X → Bool) (xs : List X) → list_any p xs ≡ true → 1 ≤ count_by p xs
count_by_some p [] some = cc
count_by_some p (x ∷ xs) some = elim (cases_Bool (p x)) [
  | inl is ↦ omega (arith, count_by-cons p x xs, ap {B = ℕ} (λ b. cond b 1 0) is)
  | inr isnt ↦ omega (arith, count_by-cons p x xs, count_by_some p xs (sym (ap (λ b. b || list_any p xs) isnt) ∙ some))
]

-- what is counted once or not at all is there or isn't
pub list_any_once : {X : Type 0} (p : X → Bool) (xs : List X) (b : Bool) → count_by p xs ≡ cond b 1 0 → list_any p xs ≡ b
list_any_once p xs true once = elim (cases_Bool (list_any p xs)) [
  | inl is ↦ is
  | inr isnt ↦ absurd (omega (arith, once, count_by_none p xs isnt))
]
list_any_once p xs false once = elim (cases_Bool (list_any p xs)) [
  | inl is ↦ absurd (omega (arith, once, count_by_some p xs is))
  | inr isnt ↦ isnt
]

-- where two are, the count is two or more
two : {X : Type 0} (p : X → Bool) (xs : List X) (i j : ℕ) (d : X) → i < j → j < length xs → p (get_or xs i d) ≡ true → p (get_or xs j d) ≡ true → 2 ≤ count_by p xs
two {X} p xs i j d order within one other =
    let f : X → ℕ = λ x. cond (p x) 1 0 in
    let front : length (take j xs) ≡ j = length-take-le j xs (omega (arith, within)) in
    omega (
      arith,
      sum_by-take-drop f xs j,
      get_or-le-sum_by f (take j xs) i d (omega (arith, front, order)),
      get_or-le-sum_by f (drop j xs) 0 d (omega (arith, length-drop j xs, within)),
      ap f (get_or-take j xs i d order),
      ap f (get_or-drop j xs 0 d),
      ap (λ k. f (get_or xs k d)) (add-zero j),
      ap {B = ℕ} (λ b. cond b 1 0) one,
      ap {B = ℕ} (λ b. cond b 1 0) other,
    )

-- of what is counted at most once there is one place
pub one-place : {X : Type 0} (p : X → Bool) (xs : List X) (i j : ℕ) (d : X) → count_by p xs ≤ 1
    → i < length xs → j < length xs → p (get_or xs i d) ≡ true → p (get_or xs j d) ≡ true → i ≡ j
one-place p xs i j d few i-in j-in one other = elim (cases_order i j) [
  | inl same ↦ same
  | inr (inl before) ↦ absurd (omega (arith, few, two p xs i j d before j-in one other))
  | inr (inr after) ↦ absurd (omega (arith, few, two p xs j i d after i-in other one))
]
