-- A text has no unknown character.
use Rattle.std.proofs.Common.{ℕ, ◌+◌, ◌≡◌, Bool, true, false, not, ◌&&◌, List, [], ◌∷◌, cond, Some, sym, ◌∙◌, position}
use Rattle.std.specs.List.{list_all, position_from}
use Rattle.std.proofs.lemmas.Iterator.Adapters.{position_from-zero}

fails : (p : ℕ → Bool) (n : ℕ) (x : ℕ) (xs : List ℕ) (b : Bool) (place : ℕ) → cond (not b) (Some n) (position_from (λ y. not (p y)) (n + 1) xs) ≡ Some place
    → (position_from (λ y. not (p y)) (n + 1) xs ≡ Some place → list_all p xs ≡ true → ⊥) → (b && list_all p xs) ≡ true → ⊥
fails p n x xs true place h more all = more h all
fails p n x xs false place h more all = cc

some_fails : (p : ℕ → Bool) (n : ℕ) (xs : List ℕ) (place : ℕ) → position_from (λ y. not (p y)) n xs ≡ Some place → list_all p xs ≡ true → ⊥
some_fails p n [] place h all = cc
some_fails p n (x ∷ xs) place h all = fails p n x xs (p x) place h (some_fails p (n + 1) xs place) all

pub no_unknown : (p : ℕ → Bool) (xs : List ℕ) (place : ℕ) → position (λ y. not (p y)) xs ≡ Some place → list_all p xs ≡ true → ⊥
no_unknown p xs place h all = some_fails p 0 xs place (sym (position_from-zero (λ y. not (p y)) xs) ∙ h) all
