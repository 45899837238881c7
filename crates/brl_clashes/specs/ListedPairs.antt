-- Pairs of rules that are listed. The project's own choice.
use Rattle.std.specs.Prelude.{ℕ, Bool, ◌&&◌, ◌==◌, List}
use Rattle.std.specs.List.{list_any}

-- whether two pairs of rules are the same
abbrev pub is_pair : ℕ × ℕ → ℕ × ℕ → Bool
is_pair x y = (x.0 == y.0) && (x.1 == y.1)

-- whether a pair of rules is one of these
abbrev pub has_pair : List (ℕ × ℕ) → ℕ × ℕ → Bool
has_pair pairs pair = list_any (is_pair pair) pairs
