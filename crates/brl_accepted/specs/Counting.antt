-- How much a file excuses, and how an answer says so. The project's own choice.
use Rattle.std.specs.Prelude.{ℕ, ◌==◌, if◌then◌else◌, List, [], ◌∷◌, ◌++◌, codes, length, map, nat_le}
use Rattle.std.specs.Fmt.{decimal}
use Rattle.std.specs.List.{fold}
use Rattle.brl_accepted.specs.declared.counts.Counts.{Counts}
use Rattle.brl_pairs.specs.Excused.{has_pair}

-- a pair of rules, the lesser number first
abbrev pub lesser_first : ℕ × ℕ → ℕ × ℕ
lesser_first pair = if nat_le pair.0 pair.1 then pair else (pair.1, pair.0)

-- these pairs and another, which is added where it is none of them
abbrev pub with_pair : List (ℕ × ℕ) → ℕ × ℕ → List (ℕ × ℕ)
with_pair pairs pair = if has_pair pairs pair then pairs else pairs ++ pair ∷ []

-- these pairs, each once
abbrev pub each_once : List (ℕ × ℕ) → List (ℕ × ℕ)
each_once pairs = fold with_pair [] pairs

-- how many pairs of rules these are, whatever the order of the two
abbrev pub pair_count : List (ℕ × ℕ) → ℕ
pair_count pairs = length (each_once (map lesser_first pairs))

-- the words after this number of pairs of rules
abbrev pub pairs_words : ℕ → List ℕ
pairs_words count = if count == 1 then codes " pair of rules" else codes " pairs of rules"

-- the words after this number of sets of characters
abbrev pub sets_words : ℕ → List ℕ
sets_words count = if count == 1 then codes " set of characters" else codes " sets of characters"

-- the line that says how many pairs of rules and how many sets of characters are excused
abbrev pub but_for_line : Counts → List ℕ
but_for_line counts =
    codes "but for: " ++ (decimal counts.pairs ++ (pairs_words counts.pairs ++ (codes ", " ++ (decimal counts.sets ++ (sets_words counts.sets ++ codes "\n")))))
