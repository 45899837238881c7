-- What is found among elements that are viewed.
use Rattle.std.proofs.Common.{◌≡◌, Bool, List, [], ◌∷◌, None, Option, Some, cond, false, find, map, option_map, refl, true}

pub find_in_map : {A B : Type 0} (is_so : B → Bool) (view : A → B) (xs : List A) → find is_so (map view xs) ≡ option_map view (find (λ x. is_so (view x)) xs)
find_in_map is_so view [] = refl
find_in_map {A} {B} is_so view (x ∷ xs) = cases (is_so (view x)) (find_in_map is_so view xs)
  where
    cases : (b : Bool) → find is_so (map view xs) ≡ option_map view (find (λ y. is_so (view y)) xs)
        → cond b (Some (view x)) (find is_so (map view xs)) ≡ option_map view (cond b (Some x) (find (λ y. is_so (view y)) xs))
    cases true later = refl
    cases false later = later
