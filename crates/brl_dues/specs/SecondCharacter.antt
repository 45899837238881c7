-- Internal. The rules above by their second characters.
use Rattle.std.specs.Prelude.{ℕ, ◌+◌, ◌≡◌, ◌==◌, Bool, List, [], ◌∷◌, ◌++◌, filter, if◌then◌else◌}
use Rattle.std.specs.List.{find}
use Rattle.std.specs.Option.{option_map_or}
use Rattle.brl_rules.specs.declared.place.Cond.{Cond}
use Rattle.brl_dues.specs.declared.rules_above.Group.{Group}

-- the first of a rule's characters after its first one, from 1 on, and 0 for none
abbrev pub second_of : List ℕ → ℕ
second_of [] = 0
second_of (c ∷ chars) = c + 1

-- whether a rule has this second character
abbrev pub has_second : ℕ → List ℕ × Cond → Bool
has_second second a = second_of a.0 == second

-- the rules of the group with this second character
abbrev pub rules_with : ℕ → List Group → List (List ℕ × Cond)
rules_with second groups = option_map_or (λ (g : Group). g.rules.items) (find (λ (g : Group). g.second == second) groups) []

-- the groups have the rules above by their second characters, of each all that there are, in order
abbrev pub AreGrouped : List (List ℕ × Cond) → List Group → Type 0
AreGrouped all groups = (second : ℕ) → rules_with second groups ≡ filter (has_second second) all

-- the groups have one more rule, the last of its group
abbrev pub Grow : List Group → List Group → List ℕ × Cond → Type 0
Grow old new a = (second : ℕ) → rules_with second new ≡ (if has_second second a then rules_with second old ++ a ∷ [] else rules_with second old)

-- the groups have the same rules
abbrev pub AreSame : List Group → List Group → Type 0
AreSame old new = (second : ℕ) → rules_with second new ≡ rules_with second old
