-- The characters that a table defines.
use Rattle.std.proofs.Common.{ℕ, ◌≡◌, Bool, true, false, cond, List, [], ◌∷◌, ap, refl, Some, is_some, inl, inr, nat_eq, eq-eqb}
use Rattle.std.specs.Map.{keys_of, lookup}
use Rattle.brl_pairs.proofs.Listing.{IsIn}
use Rattle.brl_rules.specs.declared.rule.Info.{Info}

-- a character of the alphabet is one that the table defines
pub in-defined : (entries : List (ℕ × Info)) (c : ℕ) → IsIn c (keys_of entries) → is_some (lookup (nat_eq c) entries) ≡ true
in-defined [] c h = absurd h
in-defined (e ∷ entries) c (inl same) = ap (λ b. is_some (cond b (Some e.1) (lookup (nat_eq c) entries))) (eq-eqb c e.0 same)
in-defined (e ∷ entries) c (inr h) = cases (nat_eq c e.0) (in-defined entries c h)
  where
    cases : (b : Bool) → is_some (lookup (nat_eq c) entries) ≡ true → is_some (cond b (Some e.1) (lookup (nat_eq c) entries)) ≡ true
    cases true k = refl
    cases false k = k
