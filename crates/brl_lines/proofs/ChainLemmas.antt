-- Paths in a list.
use Rattle.std.proofs.Common.{◌≡◌, ℕ, zero, suc, ◌<◌, Bool, true, List, [], ◌∷◌, map, length, get_or, refl, arith}
use Rattle.std.specs.List.{list_any}
use Rattle.std.proofs.lemmas.Bool.{or_right}

-- an element that passes
pub any_here : {X Y : Type 0} (p : Y → Bool) (f : X → Y) (xs : List X) (i : ℕ) (d : X) → i < length xs → p (f (get_or xs i d)) ≡ true → list_any p (map f xs) ≡ true
any_here p f [] i d h e = absurd (omega arith)
any_here p f (x ∷ xs) zero d h e = rw e refl
any_here p f (x ∷ xs) (suc i) d h e = rw (any_here p f xs i d (omega arith) e) (or_right (p (f x)) true refl)
