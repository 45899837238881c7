-- Internal. What was noted of the uses of characters that the table doesn't define.
use Rattle.std.specs.Prelude.{ℕ, ◌≡◌, List, map, nat_eq}
use Rattle.std.specs.BTreeMap.{get_by}
use Rattle.std.specs.Map.{lookup}
use Rattle.std.specs.Ordering.{nat_cmp}
use Rattle.brl_stream.specs.Lacking.{Use, count_of, first_uses}
use Rattle.brl_stream.specs.declared.lacking.Uses.{Uses}
use Rattle.brl_stream.specs.declared.lacking.Noted.{Noted}

-- what is noted of the character of a use among these uses
abbrev pub entry_of : List Use → Use → ℕ × Uses
entry_of uses one = (one.0, record { count = count_of uses one; line = one.1 })

-- what is noted of each character of these uses, in the order of their first uses
abbrev pub entries_of : List Use → List (ℕ × Uses)
entries_of uses = map (entry_of uses) (first_uses uses)

-- these uses were noted, and no others
pub record IsNoted (uses : List Use) (noted : Noted) : Type 0 where
  pub order : noted.order.items ≡ map (λ one. one.0) (first_uses uses)
  pub each : (c : ℕ) → get_by (nat_cmp c) noted.found ≡ lookup (nat_eq c) (entries_of uses)
