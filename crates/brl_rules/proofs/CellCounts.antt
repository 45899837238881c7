-- How many cells a character has.
use Rattle.std.proofs.Common.{ℕ, ◌≤◌, ◌≡◌, Bool, true, false, cond, List, [], ◌∷◌, length, nat_eq, arith, Some, is_some}
use Rattle.std.specs.List.{AllByRecursion}
use Rattle.std.specs.Map.{lookup}
use Rattle.std.specs.Option.{option_map_or}
use Rattle.brl_rules.specs.declared.rule.Info.{Info}

-- 1 to n
pub record Within (m n : ℕ) : Type 0 where
  pub some : 1 ≤ m
  pub room : m ≤ n

-- a character that is defined has 1 to 512 cells where each has 1 to 16
pub found-cells : (entries : List (ℕ × Info)) (c : ℕ) → AllByRecursion (λ e. Within (length e.1.cells) 16) entries → is_some (lookup (nat_eq c) entries) ≡ true
    → Within (length (option_map_or (λ i. i.cells) (lookup (nat_eq c) entries) [])) 512
found-cells [] c h d = cc
found-cells (e ∷ es) c h d = cases (nat_eq c e.0) d (found-cells es c h.1)
  where
    cases : (b : Bool) → is_some (cond b (Some e.1) (lookup (nat_eq c) es)) ≡ true
        → (is_some (lookup (nat_eq c) es) ≡ true → Within (length (option_map_or (λ i. i.cells) (lookup (nat_eq c) es) [])) 512)
        → Within (length (option_map_or (λ i. i.cells) (cond b (Some e.1) (lookup (nat_eq c) es)) [])) 512
    cases true k more = record { some = h.0.some; room = (let few = h.0.room in omega (arith, few)) }
    cases false k more = more k
