-- Differences that are the same.
use Rattle.std.proofs.Common.{◌≡◌, true, false, nat_eq, refl, sym, ap, ap₂, subst}
use Rattle.std.proofs.lemmas.Bool.{and_from, and_parts, both_ways, eq-eqb, eqb-true, false≢true, false_from_ne_true}
use Rattle.brl_slips.specs.Habits.{same}
use Rattle.brl_slips.specs.declared.habit.Difference.{Difference}
use Rattle.brl_slips.specs.declared.habit.Difference.TheVariants.{Exchanged, Missing, Replaced, TooMany}

-- then they are one
pub same_is : (one other : Difference) → same one other ≡ true → one ≡ other
same_is (Replaced is meant) (Replaced other wanted) e =
    let parts = and_parts (nat_eq is other) (nat_eq meant wanted) e in
    ap₂ Replaced (eqb-true is other parts.0) (eqb-true meant wanted parts.1)
same_is Exchanged Exchanged e = refl
same_is (TooMany cell) (TooMany other) e = ap TooMany (eqb-true cell other e)
same_is (Missing cell) (Missing other) e = ap Missing (eqb-true cell other e)
same_is one other e = absurd (false≢true e)

-- a difference is the same as itself
pub same-itself : (one : Difference) → same one one ≡ true
same-itself (Replaced is meant) = and_from (nat_eq is is) (nat_eq meant meant) (eq-eqb is is refl) (eq-eqb meant meant refl)
same-itself Exchanged = refl
same-itself (TooMany cell) = eq-eqb cell cell refl
same-itself (Missing cell) = eq-eqb cell cell refl

-- whichever is named first
pub same-turned : (one other : Difference) → same one other ≡ false → same other one ≡ false
same-turned one other isnt =
    false_from_ne_true (same other one) (λ is. both_ways (same one other) isnt (subst (λ d. same one d ≡ true) (sym (same_is other one is)) (same-itself one)))
