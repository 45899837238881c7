-- Sets of characters and of words, as tests of their members.
use Rattle.std.specs.Prelude.{ℕ, Bool, List, map, nat_eq}
use Rattle.std.specs.Borrow.{Bor}
use Rattle.std.specs.List.{list_any}
use Rattle.std.specs.Str.{bytes_eq}
use Rattle.brl_acting.specs.declared.char_set.CharSet.{CharSet}
use Rattle.brl_acting.specs.declared.name_set.NameSet.{NameSet}

-- a character is one of these
abbrev pub is_in : List ℕ → ℕ → Bool
is_in chars c = list_any (nat_eq c) chars

-- a word is one of these
abbrev pub is_one_of : List (List ℕ) → List ℕ → Bool
is_one_of words word = list_any (bytes_eq word) words

-- the sets of the code
abbrev pub set_view : CharSet → ℕ → Bool
set_view set = is_in set.set.keys

abbrev pub names_view : NameSet → List ℕ → Bool
names_view names = λ name. list_any (λ other. bytes_eq name other.now) names.names.items

-- pairs of a name and a character, as the code has them
abbrev pub pair_views : List (Bor (List ℕ) × ℕ) → List (List ℕ × ℕ)
pair_views pairs = map (λ pair. (pair.0.now, pair.1)) pairs
