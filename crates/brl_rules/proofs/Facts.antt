-- Booleans, numbers and options: what the proofs of several crates cite.
use Rattle.std.proofs.Common.{ℕ, suc, ◌<◌, ◌≤◌, ◌≡◌, ◌≢◌, Bool, true, false, not, ◌&&◌, nat_eq, nat_lt, List, [], ◌∷◌, length, refl, arith, ap, ◌∙◌, Some}
use Rattle.std.specs.Prelude.{◌||◌, slice_index_or}
use Rattle.std.specs.List.{AllByRecursion}
use Rattle.std.proofs.Math.Bool.{beq}
use Rattle.std.proofs.lemmas.Bool.{eq-eqb}
use Rattle.std.proofs.lemmas.Bool.Decides.{nat_tests}

-- ---- Options

pub some_is : {X : Type 0} (x y : X) → Some x ≡ Some y → x ≡ y
some_is x y h = cc

-- ---- Booleans

pub beq-itself : (b : Bool) → beq b b ≡ true
beq-itself true = refl
beq-itself false = refl

pub not_both : (b : Bool) → b ≡ true → b ≡ false → ⊥
not_both b e f = cc

pub and-true : (a b : Bool) → a ≡ true → b ≡ true → (a && b) ≡ true
and-true a b h k = ap (λ c. c && b) h ∙ k

pub and-false : (a : Bool) → (a && false) ≡ false
and-false true = refl
and-false false = refl

pub or-false : (b : Bool) → b || false ≡ b
or-false true = refl
or-false false = refl

pub or-true : (b : Bool) → b || true ≡ true
or-true true = refl
or-true false = refl

pub or-assoc : (a b c : Bool) → a || (b || c) ≡ (a || b) || c
or-assoc true b c = refl
or-assoc false b c = refl

pub or-twice : (a b : Bool) → a || b ≡ (a || b) || a
or-twice true b = refl
or-twice false true = refl
or-twice false false = refl

-- ---- Numbers

pub same_number : (m n : ℕ) → nat_eq m n ≡ true → m ≡ n
same_number m n h = grind (arith, nat_tests)

pub nat_eq-itself : (n : ℕ) → nat_eq n n ≡ true
nat_eq-itself n = grind (arith, nat_tests)

pub nat_eq-sym : (m n : ℕ) → nat_eq m n ≡ nat_eq n m
nat_eq-sym m n = grind (arith, nat_tests)

pub not_below : (m n : ℕ) → nat_lt m n ≡ false → n ≤ m
not_below m n h = grind (arith, nat_tests)

pub not_above : (m n : ℕ) → n ≤ m → nat_lt m n ≡ false
not_above m n h = grind (arith, nat_tests)

-- neither of two numbers is less than the other
pub no_less : (m n : ℕ) → (not (nat_lt m n) && not (nat_lt n m)) ≡ nat_eq m n
no_less m n = grind (arith, nat_tests)

-- ---- Numbers that differ, and all elements of a list

pub unequal : (m n : ℕ) → nat_eq m n ≡ false → m ≢ n
unequal m n h e = (let k = eq-eqb m n e in cc)

pub all_unequal : (x : ℕ) (ys : List ℕ) → AllByRecursion (λ y. nat_eq x y ≡ false) ys → AllByRecursion (λ y. x ≢ y) ys
all_unequal x [] h = tt
all_unequal x (y ∷ ys) h = (unequal x y h.0, all_unequal x ys h.1)

pub each : {X : Type 0} (P : X → Type 0) (xs : List X) → ((k : ℕ) (d : X) → k < length xs → P (slice_index_or xs k d)) → AllByRecursion P xs
each P [] h = tt
each P (x ∷ xs) h = (h 0 x (omega arith), each P xs (λ k d within. h (suc k) d (omega (arith, within))))
