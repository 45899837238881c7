-- Texts that don't use some characters. The project's own choice.
use Rattle.std.specs.Prelude.{ℕ, Bool, List, nat_eq, not}
use Rattle.std.specs.List.{list_all, list_any}

-- whether the character is one of those that are left out
abbrev pub is_left_out : List ℕ → ℕ → Bool
is_left_out left_out c = list_any (nat_eq c) left_out

-- whether a text uses none of the characters that are left out
abbrev pub uses_none : List ℕ → List ℕ → Bool
uses_none left_out text = list_all (λ c. not (is_left_out left_out c)) text
