-- Where one of two lists has ended, they have no more in common.
use Rattle.std.proofs.Common.{ℕ, ◌≡◌, ◌≤◌, Bool, List, [], ◌∷◌, length, drop, refl}
use Rattle.std.specs.List.{common_prefix_len}
use Rattle.std.proofs.lemmas.List.{drop_all}

nothing : {X Y : Type 0} (e : X → Y → Bool) (xs : List X) → common_prefix_len e xs [] ≡ 0
nothing e [] = refl
nothing e (x ∷ xs) = refl

pub no-more-right : {X Y : Type 0} (e : X → Y → Bool) (xs : List X) (ys : List Y) (i : ℕ) → length ys ≤ i → common_prefix_len e (drop i xs) (drop i ys) ≡ 0
no-more-right e xs ys i past = rw (drop_all i ys past) (nothing e (drop i xs))
