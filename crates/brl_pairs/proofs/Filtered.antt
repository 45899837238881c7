-- What tests keep of lists.
use Rattle.std.proofs.Common.{◌≡◌, Bool, true, false, cond, List, [], ◌∷◌, ◌++◌, filter, refl, sym, ap, ◌∙◌, flat_map}
use Rattle.std.proofs.lemmas.List.Elements.{filter-append}

-- a test that is made twice keeps the same
pub filter-twice : {X : Type 0} (p : X → Bool) (xs : List X) → filter p (filter p xs) ≡ filter p xs
filter-twice p [] = refl
filter-twice {X = X} p (x ∷ xs) = at (p x) refl (filter-twice p xs)
  where
    at : (b : Bool) → p x ≡ b → filter p (filter p xs) ≡ filter p xs → filter p (cond b (x ∷ filter p xs) (filter p xs)) ≡ cond b (x ∷ filter p xs) (filter p xs)
    at true e more = ap (λ b. cond b (x ∷ filter p (filter p xs)) (filter p (filter p xs))) e ∙ ap (λ l. x ∷ l) more
    at false e more = more

-- two tests may be made in either order
pub filter-either : {X : Type 0} (p q : X → Bool) (xs : List X) → filter p (filter q xs) ≡ filter q (filter p xs)
filter-either p q [] = refl
filter-either {X = X} p q (x ∷ xs) = at (p x) (q x) refl refl (filter-either p q xs)
  where
    with-p : (b : Bool) → p x ≡ b → filter p (x ∷ filter q xs) ≡ cond b (x ∷ filter p (filter q xs)) (filter p (filter q xs))
    with-p b e = ap (λ v. cond v (x ∷ filter p (filter q xs)) (filter p (filter q xs))) e

    with-q : (b : Bool) → q x ≡ b → filter q (x ∷ filter p xs) ≡ cond b (x ∷ filter q (filter p xs)) (filter q (filter p xs))
    with-q b e = ap (λ v. cond v (x ∷ filter q (filter p xs)) (filter q (filter p xs))) e

    at : (a b : Bool) → p x ≡ a → q x ≡ b → filter p (filter q xs) ≡ filter q (filter p xs)
        → filter p (cond b (x ∷ filter q xs) (filter q xs)) ≡ filter q (cond a (x ∷ filter p xs) (filter p xs))
    at true true e f more = with-p true e ∙ ap (λ l. x ∷ l) more ∙ sym (with-q true f)
    at true false e f more = more ∙ sym (with-q false f)
    at false true e f more = with-p false e ∙ more
    at false false e f more = more

-- lists that are joined may be tested one by one
pub filter-flat_map : {X Y : Type 0} (p : Y → Bool) (f : X → List Y) (xs : List X) → filter p (flat_map f xs) ≡ flat_map (λ x. filter p (f x)) xs
filter-flat_map p f [] = refl
filter-flat_map p f (x ∷ xs) = filter-append p (f x) (flat_map f xs) ∙ ap (λ l. filter p (f x) ++ l) (filter-flat_map p f xs)
