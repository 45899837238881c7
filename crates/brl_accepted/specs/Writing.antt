-- The text of a file that names listed pairs of rules and sets of characters. The project's own
-- choice.
use Rattle.std.specs.Prelude.{ℕ, Bool, List, ◌++◌, codes, flat_map, not}
use Rattle.std.specs.List.{filter, list_any}
use Rattle.brl_accepted.specs.Pairs.{pairs_text}
use Rattle.brl_accepted.specs.Sets.{pairs_of_sets, set_line, set_pairs}
use Rattle.brl_pairs.specs.Divergence.{has_rules}
use Rattle.brl_rules.specs.TableView.{TableView}

-- whether a pair of own definitions of a set of characters is listed
abbrev pub is_listed_set : TableView → List (ℕ × ℕ) → List ℕ → Bool
is_listed_set t listed set = list_any (λ pair. has_rules listed pair.0 pair.1) (set_pairs t set)

-- the sets that have such a pair
abbrev pub listed_sets : TableView → List (List ℕ) → List (ℕ × ℕ) → List (List ℕ)
listed_sets t sets listed = filter (is_listed_set t listed) sets

-- the listed pairs that are of none of these sets
abbrev pub pairs_beside : TableView → List (List ℕ) → List (ℕ × ℕ) → List (ℕ × ℕ)
pairs_beside t sets listed = filter (λ pair. not (has_rules (pairs_of_sets t sets) pair.0 pair.1)) listed

-- the line of a set with its end
abbrev pub whole_set_line : List ℕ → List ℕ
whole_set_line set = set_line set ++ codes "\n"

-- the lines of these sets
abbrev pub sets_text : List (List ℕ) → List ℕ
sets_text sets = flat_map whole_set_line sets

-- the text of a file that names these listed pairs: a line for each set that has a listed pair, and
-- one for each other pair
abbrev pub accepted_text : TableView → List (List ℕ) → List (List ℕ) → List (ℕ × ℕ) → List ℕ
accepted_text t words sets listed =
    sets_text (listed_sets t sets listed) ++ pairs_text words (pairs_beside t (listed_sets t sets listed) listed)
