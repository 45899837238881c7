-- What is where in a list with one more element.
use Rattle.std.proofs.Common.{◌≡◌, zero, suc, Bool, true, false, List, [], ◌∷◌, ◌++◌, refl, if◌then◌else◌}
use Rattle.brl_pairs.specs.Members.{IsMember}
use Rattle.brl_closure.specs.SearchView.{Stays}

module _ {X : Type 0} where
  pub stays_push : (xs : List X) (x : X) → Stays xs (xs ++ x ∷ [])
  stays_push [] x k y at = cc
  stays_push (z ∷ xs) x zero y at = at
  stays_push (z ∷ xs) x (suc k) y at = stays_push xs x k y at

  pub stays_refl : (xs : List X) → Stays xs xs
  stays_refl xs k x at = at

  pub stays_trans : (xs ys zs : List X) → Stays xs ys → Stays ys zs → Stays xs zs
  stays_trans xs ys zs a b k x at = b k x (a k x at)

  -- a value that is no member is added at the end
  pub inserted : (v : X) (xs ys : List X) (added : Bool) → (IsMember xs v → ⊥) → (added ≡ false → IsMember xs v) → ys ≡ (if added then xs ++ v ∷ [] else xs) → ys ≡ xs ++ v ∷ []
  inserted v xs ys true none known members = members
  inserted v xs ys false none known members = absurd (none (known refl))
