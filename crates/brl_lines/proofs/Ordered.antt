-- When a comparison of numbers says that they are equal.
use Rattle.std.proofs.Common.{◌≡◌, ℕ, Bool, true, false, arith, cond, nat_eq, nat_lt, refl}
use Rattle.std.proofs.lemmas.Bool.Decides.{nat_tests}
use Rattle.std.specs.Ordering.{is_eq, nat_cmp}
use Rattle.std.specs.declared.cmp.Ordering.TheVariants.{Less, Equal, Greater}

pub is_eq-nat_eq : (a b : ℕ) → is_eq (nat_cmp a b) ≡ nat_eq a b
is_eq-nat_eq a b = by_tests (nat_lt a b) refl (nat_eq a b) refl
  where
    by_tests : (less : Bool) → nat_lt a b ≡ less → (same : Bool) → nat_eq a b ≡ same → is_eq (cond less Less (cond same Equal Greater)) ≡ same
    by_tests true l true s = absurd (grind (arith, nat_tests, l, s))
    by_tests true l false s = refl
    by_tests false l true s = refl
    by_tests false l false s = refl
