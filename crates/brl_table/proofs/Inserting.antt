-- A list with one more element, unless an equal one is there.
use Rattle.std.proofs.Common.{◌≡◌, Bool, true, false, ◌||◌, cond, List, [], ◌∷◌, ◌++◌, fold, refl, sym, ◌∙◌, ap}
use Rattle.std.specs.List.{list_any}
use Rattle.brl_table.specs.Reading.{insert_new}
use Rattle.brl_rules.proofs.Facts.{or-assoc, or-false, or-twice}

module _ {X : Type 0} (eq : X → X → Bool) where
  -- the list stays as it is, where it has an equal one
  pub put-known : (x : X) (xs : List X) → list_any (eq x) xs ≡ true → insert_new eq xs x ≡ xs
  put-known x [] h = cc
  put-known x (y ∷ ys) h = cases (eq x y) h (put-known x ys)
    where
      cases : (b : Bool) → b || list_any (eq x) ys ≡ true → (list_any (eq x) ys ≡ true → insert_new eq ys x ≡ ys) → cond b (y ∷ ys) (y ∷ insert_new eq ys x) ≡ y ∷ ys
      cases true k more = refl
      cases false k more = ap (λ zs. y ∷ zs) (more k)

  -- else the element comes last
  pub put-new : (x : X) (xs : List X) → list_any (eq x) xs ≡ false → insert_new eq xs x ≡ xs ++ x ∷ []
  put-new x [] h = refl
  put-new x (y ∷ ys) h = cases (eq x y) h (put-new x ys)
    where
      cases : (b : Bool) → b || list_any (eq x) ys ≡ false → (list_any (eq x) ys ≡ false → insert_new eq ys x ≡ ys ++ x ∷ []) → cond b (y ∷ ys) (y ∷ insert_new eq ys x) ≡ y ∷ (ys ++ x ∷ [])
      cases true k more = cc
      cases false k more = ap (λ zs. y ∷ zs) (more k)

  module _ (same : (c x y : X) → eq x y ≡ true → eq c y ≡ eq c x) where
    any-put : (c x : X) (xs : List X) → list_any (eq c) (insert_new eq xs x) ≡ list_any (eq c) xs || eq c x
    any-put c x [] = or-false (eq c x)
    any-put c x (y ∷ ys) = cases (eq x y) refl (any-put c x ys)
      where
        cases : (b : Bool) → eq x y ≡ b → list_any (eq c) (insert_new eq ys x) ≡ list_any (eq c) ys || eq c x
            → list_any (eq c) (cond b (y ∷ ys) (y ∷ insert_new eq ys x)) ≡ (eq c y || list_any (eq c) ys) || eq c x
        cases true e more = or-twice (eq c y) (list_any (eq c) ys) ∙ ap (λ b. (eq c y || list_any (eq c) ys) || b) (same c x y e)
        cases false e more = ap (λ b. eq c y || b) more ∙ or-assoc (eq c y) (list_any (eq c) ys) (eq c x)

    -- what is in the list, after elements were added
    pub any-fold : (c : X) (cs xs : List X) → list_any (eq c) (fold (insert_new eq) xs cs) ≡ list_any (eq c) xs || list_any (eq c) cs
    any-fold c [] xs = sym (or-false (list_any (eq c) xs))
    any-fold c (x ∷ cs) xs =
        any-fold c cs (insert_new eq xs x) ∙ ap (λ b. b || list_any (eq c) cs) (any-put c x xs)
        ∙ sym (or-assoc (list_any (eq c) xs) (eq c x) (list_any (eq c) cs))
