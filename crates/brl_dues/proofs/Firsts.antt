-- Of steps that are the same the first is kept: whether before something is made of them or after
-- it alone, and whether of each list of them before or of all together alone.
use Rattle.std.proofs.Common.{◌≡◌, Bool, true, false, List, [], ◌∷◌, ◌++◌, refl, sym, ap, ◌∙◌, subst, cond, append-nil, inl, inr}
use Rattle.std.proofs.lemmas.Grind.{flat_map-append}
use Rattle.std.specs.List.{flat_map, list_any}
use Rattle.brl_pairs.specs.declared.step.Step.{Step}
use Rattle.brl_states.specs.declared.dues_state.DuesState.{DuesState}
use Rattle.brl_dues.specs.Steps.{is_same_step, with_step, with_steps}
use Rattle.brl_dues.proofs.Repeats.{found-in, in-found, in-with_steps, with_steps-append}
use Rattle.brl_pairs.proofs.Listing.{IsIn, in-flat_map}

-- steps that are there add nothing
known : (steps more : List (Step DuesState)) → ((x : Step DuesState) → IsIn x more → IsIn x steps) → with_steps steps more ≡ steps
known steps [] h = refl
known steps (y ∷ more) h =
    ap (λ b. with_steps (cond b steps (steps ++ y ∷ [])) more) (in-found y steps (h y (inl refl)))
    ∙ known steps more (λ x i. h x (inr i))

-- ---- Before something is made of them

module _ (h : Step DuesState → List (Step DuesState)) where
  abbrev made : List (Step DuesState) → List (Step DuesState)
  made steps = with_steps [] (flat_map h steps)

  one-made : (steps : List (Step DuesState)) (x : Step DuesState) → made (with_step steps x) ≡ with_steps (made steps) (h x)
  one-made steps x = at (list_any (is_same_step x) steps) refl
    where
      at : (b : Bool) → list_any (is_same_step x) steps ≡ b → made (cond b steps (steps ++ x ∷ [])) ≡ with_steps (made steps) (h x)
      at true e = sym (known (made steps) (h x) (λ y i. in-with_steps [] (flat_map h steps) y (in-flat_map h x y steps (found-in x steps e) i)))
      at false e =
          ap (with_steps []) (flat_map-append h steps (x ∷ []) ∙ ap (λ l. flat_map h steps ++ l) (append-nil (h x)))
          ∙ with_steps-append [] (flat_map h steps) (h x)

  more-made : (steps more : List (Step DuesState)) → made (with_steps steps more) ≡ with_steps (made steps) (flat_map h more)
  more-made steps [] = refl
  more-made steps (x ∷ more) =
      more-made (with_step steps x) more ∙ ap (λ l. with_steps l (flat_map h more)) (one-made steps x)
      ∙ sym (with_steps-append (made steps) (h x) (flat_map h more))

  pub made-once : (steps : List (Step DuesState)) → made (with_steps [] steps) ≡ made steps
  made-once steps = more-made [] steps

-- ---- List by list

one-twice : (steps more : List (Step DuesState)) (x : Step DuesState) → with_steps steps (with_step more x) ≡ with_step (with_steps steps more) x
one-twice steps more x = at (list_any (is_same_step x) more) refl
  where
    both : IsIn x more → (y : Step DuesState) → IsIn y (x ∷ []) → IsIn y (with_steps steps more)
    both k y (inl e) = subst (λ w. IsIn w (with_steps steps more)) (sym e) (in-with_steps steps more x k)
    both k y (inr none) = absurd none

    at : (b : Bool) → list_any (is_same_step x) more ≡ b → with_steps steps (cond b more (more ++ x ∷ [])) ≡ with_step (with_steps steps more) x
    at true e = sym (known (with_steps steps more) (x ∷ []) (both (found-in x more e)))
    at false e = with_steps-append steps more (x ∷ [])

twice : (steps more last : List (Step DuesState)) → with_steps steps (with_steps more last) ≡ with_steps (with_steps steps more) last
twice steps more [] = refl
twice steps more (x ∷ last) = twice steps (with_step more x) last ∙ ap (λ l. with_steps l last) (one-twice steps more x)

pub each-once : {X : Type 0} (f : X → List (Step DuesState)) (steps : List (Step DuesState)) (xs : List X) → with_steps steps (flat_map (λ x. with_steps [] (f x)) xs) ≡ with_steps steps (flat_map f xs)
each-once f steps [] = refl
each-once f steps (x ∷ xs) =
    with_steps-append steps (with_steps [] (f x)) (flat_map (λ y. with_steps [] (f y)) xs)
    ∙ ap (λ l. with_steps l (flat_map (λ y. with_steps [] (f y)) xs)) (twice steps [] (f x))
    ∙ each-once f (with_steps steps (f x)) xs
    ∙ sym (with_steps-append steps (f x) (flat_map f xs))
