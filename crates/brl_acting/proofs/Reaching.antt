-- Sets that grow by pairs until nothing is new.
use Rattle.std.proofs.Common.{◌≡◌, ◌∙◌, ◌||◌, ◌&&◌, ℕ, zero, suc, Bool, true, false, List, [], ◌∷◌, ap, nat_eq, refl, sym}
use Rattle.std.specs.List.{list_all}
use Rattle.brl_rules.proofs.Facts.{or-false, same_number}
use Rattle.brl_acting.specs.Capitals.{grown, reached_in, seconds}
use Rattle.brl_acting.specs.Sets.{is_in}

first_of : (a b : Bool) → (a && b) ≡ true → a ≡ true
first_of true b h = refl
first_of false b h = h

rest_of : (a b : Bool) → (a && b) ≡ true → b ≡ true
rest_of true b h = h
rest_of false true h = refl
rest_of false false h = h

-- what is in a set that has all of a list is nothing new
pub nothing_new : (set : ℕ → Bool) (chars : List ℕ) → list_all set chars ≡ true → (c : ℕ) → (set c || is_in chars c) ≡ set c
nothing_new set [] all c = or-false (set c)
nothing_new set (x ∷ xs) all c = by (nothing_new set xs (rest_of (set x) (list_all set xs) all) c) (nat_eq c x) refl
  where
    by : (set c || is_in xs c) ≡ set c → (b : Bool) → nat_eq c x ≡ b → (set c || (nat_eq c x || is_in xs c)) ≡ set c
    by more true e =
        let has : set c ≡ true = ap set (same_number c x e) ∙ first_of (set x) (list_all set xs) all in
        ap (λ b. b || (nat_eq c x || is_in xs c)) has ∙ sym has
    by more false e = ap (λ b. set c || (b || is_in xs c)) e ∙ more

-- where nothing is new, no step adds anything
pub at_rest : (pairs : List (ℕ × ℕ)) (set : ℕ → Bool) → list_all set (seconds pairs set) ≡ true → (steps : ℕ) → reached_in steps pairs set ≡ set
at_rest pairs set all zero = refl
at_rest pairs set all (suc n) =
    let same : grown pairs set ≡ set = λ j c. nothing_new set (seconds pairs set) all c j in
    ap (reached_in n pairs) same ∙ at_rest pairs set all n

-- one more step
pub step_more : (steps : ℕ) (pairs : List (ℕ × ℕ)) (set : ℕ → Bool) (left : ℕ) → steps ≡ suc left → reached_in steps pairs set ≡ reached_in left pairs (grown pairs set)
step_more steps pairs set left is = ap (λ n. reached_in n pairs set) is
