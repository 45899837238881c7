-- How a file of pairs of rules names sets of characters whose steps may be exchanged. The
-- project's own choice.
use Rattle.std.specs.Prelude.{ℕ, Bool, ◌&&◌, if◌then◌else◌, List, [], ◌++◌, codes, drop, flat_map, length, map, nat_eq, nat_lt, Result, Ok, Err}
use Rattle.std.specs.List.{count_by, filter, list_all, list_any, starts_with}
use Rattle.std.specs.Str.{encode_utf8_all}
use Rattle.brl_lines.specs.Escapes.{characters_of}
use Rattle.brl_lines.specs.Visible.{visible_text}
use Rattle.brl_lines.specs.declared.operand.CharsFault.{CharsFault}
use Rattle.brl_report.specs.Rules.{own_number}
use Rattle.brl_rules.specs.TableView.{TableView}

-- ---- Lines

-- how the line of a set begins
abbrev pub exchange : List ℕ
exchange = codes "exchange "

-- whether a line begins so
abbrev pub is_exchange : List ℕ → Bool
is_exchange line = starts_with nat_eq line exchange

-- the line of a set of characters, which are spelled as in an operand of a table
abbrev pub set_line : List ℕ → List ℕ
set_line set = exchange ++ encode_utf8_all (visible_text set)

-- the characters that are spelled, or none where this spells no characters
abbrev pub or_none : Result (List ℕ) CharsFault → List ℕ
or_none (Ok characters) = characters
or_none (Err fault) = []

-- the characters that the line of a set names; none of another line, and where they are badly
-- spelled
abbrev pub named_set : List ℕ → List ℕ
named_set line = if is_exchange line then or_none (characters_of (drop (length exchange) line)) else []

-- whether all of some characters are in a set
abbrev pub is_within : List ℕ → List ℕ → Bool
is_within set characters = list_all (λ c. list_any (nat_eq c) set) characters

-- whether these are two characters or more of a set
abbrev pub are_characters_of : List ℕ → List ℕ → Bool
are_characters_of set characters = nat_lt 1 (length characters) && is_within set characters

-- whether these are two characters or more that are in one of these sets
abbrev pub are_in_one_set : List (List ℕ) → List ℕ → Bool
are_in_one_set sets characters = nat_lt 1 (length characters) && list_any (λ set. is_within set characters) sets

-- of how many of these sets one of these lists has two characters or more
abbrev pub set_count : List (List ℕ) → List (List ℕ) → ℕ
set_count sets named = count_by (λ set. list_any (are_characters_of set) named) sets

-- ---- Pairs of own definitions

-- the pairs of a number and each of these that is greater
abbrev pub greater_pairs : List ℕ → ℕ → List (ℕ × ℕ)
greater_pairs numbers r = map (λ s. (r, s)) (filter (λ s. nat_lt r s) numbers)

-- the pairs of two of these numbers, the lesser first
abbrev pub ordered_pairs : List ℕ → List (ℕ × ℕ)
ordered_pairs numbers = flat_map (greater_pairs numbers) numbers

-- the pairs of the own definitions of a set of characters of a table
abbrev pub set_pairs : TableView → List ℕ → List (ℕ × ℕ)
set_pairs t set = ordered_pairs (map (own_number t) set)

-- the pairs of the own definitions of some sets
abbrev pub pairs_of_sets : TableView → List (List ℕ) → List (ℕ × ℕ)
pairs_of_sets t sets = flat_map (set_pairs t) sets
