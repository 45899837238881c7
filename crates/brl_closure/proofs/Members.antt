-- Members of lists. A list that contains some things, no two of them the same, is at least as long
-- as there are things.
use Rattle.std.proofs.Common.{◌≡◌, ◌≢◌, ℕ, suc, ◌<◌, ◌≤◌, List, [], ◌∷◌, inl, inr, Some, length, refl, sym, ◌∙◌, ap, arith}
use Rattle.std.specs.Prelude.{slice_get}
use Rattle.std.specs.List.{Contains}
use Rattle.brl_closure.specs.Reached.{AtMost}
use Rattle.brl_pairs.proofs.Listing.{IsIn, Contains-in, in-at}

-- ---- Counting

-- a list without one of its members
without : {X : Type 0} (x : X) (ys : List X) → IsIn x ys → List X
without x [] h = []
without x (y ∷ ys) (inl e) = ys
without x (y ∷ ys) (inr h) = y ∷ without x ys h

without-length : {X : Type 0} (x : X) (ys : List X) (h : IsIn x ys) → length ys ≡ suc (length (without x ys h))
unfolding without
without-length x [] h = absurd h
without-length x (y ∷ ys) (inl e) = refl
without-length x (y ∷ ys) (inr h) = ap suc (without-length x ys h)

without-others : {X : Type 0} (x z : X) (ys : List X) (h : IsIn x ys) → x ≢ z → IsIn z ys → IsIn z (without x ys h)
unfolding without
without-others x z [] h other i = absurd h
without-others x z (y ∷ ys) (inl e) other (inl k) = absurd (other (e ∙ sym k))
without-others x z (y ∷ ys) (inl e) other (inr i) = i
without-others x z (y ∷ ys) (inr h) other (inl k) = inl k
without-others x z (y ∷ ys) (inr h) other (inr i) = inr (without-others x z ys h other i)

few : {X : Type 0} (xs ys : List X) → ((x : X) → IsIn x xs → IsIn x ys) → ((i j : ℕ) (x y : X) → i < j → slice_get xs i ≡ Some x → slice_get xs j ≡ Some y → x ≢ y)
    → length xs ≤ length ys
few [] ys f differ = omega arith
few (x ∷ xs) ys f differ =
    let here : IsIn x ys = f x (inl refl) in
    let others : (z : _) → IsIn z xs → x ≢ z = λ z i. (let at = in-at z xs i in differ 0 (suc at.0) x z (omega arith) refl at.1) in
    let rest : length xs ≤ length (without x ys here) =
    few xs (without x ys here) (λ z i. without-others x z ys here (others z i) (f z (inr i))) (λ i j y z less y_at z_at. differ (suc i) (suc j) y z (omega (arith, less)) y_at z_at) in
    let size = without-length x ys here in
    omega (arith, rest, size)

-- where a list contains all that there is of a kind, there is no more of it than the list is long
pub at_most_listed : {X : Type 0} (Same : X → X → Type 0) (Kind : X → Type 0) → ((x y : X) → x ≡ y → Same x y) → (all : List X) → ((x : X) → Kind x → Contains all x) → AtMost (length all) Same Kind
at_most_listed Same Kind same all holds k h =
    let within : length h.list ≤ length all =
    few h.list all (λ x i. (let at = in-at x h.list i in Contains-in x all (holds x (h.each at.0 x at.1)))) (λ i j x y less x_at y_at e. h.differ i j x y less x_at y_at (same x y e)) in
    let size = h.count in
    omega (arith, within, size)
