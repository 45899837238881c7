-- The characters that the lines of an input have and the table doesn't define. The project's own
-- choice.
use Rattle.std.specs.Prelude.{ℕ, ◌≡◌, ◌+◌, ◌==◌, not, Bool, List, [], ◌∷◌, ◌++◌, count_by, filter, map}
use Rattle.std.specs.Str.{chars}
use Rattle.brl_rules.specs.TableView.{TableView}
use Rattle.brl_rules.specs.Text.{is_defined}
use Rattle.brl_stream.specs.declared.lacking.Lacking.{Lacking}

-- a use of a character: the character, and the number of its line
abbrev pub Use : Type 0
Use = ℕ × ℕ

-- the uses of characters that the table doesn't define, in the text of the line with this number
abbrev pub uses_in : TableView → ℕ → List ℕ → List Use
uses_in t number text = map (λ c. (c, number)) (filter (λ c. not (is_defined t c)) text)

-- the uses in lines; the first line has this number
abbrev pub uses_from : TableView → ℕ → List (List ℕ) → List Use
uses_from t number [] = []
uses_from t number (line ∷ lines) = uses_in t number (chars line) ++ uses_from t (number + 1) lines

-- two uses are of one character
abbrev pub are_of_one : Use → Use → Bool
are_of_one a b = a.0 == b.0

-- the first use of each character
abbrev pub first_uses : List Use → List Use
first_uses [] = []
first_uses (one ∷ uses) = one ∷ filter (λ other. not (are_of_one one other)) (first_uses uses)

-- how often the character of a use is used
abbrev pub count_of : List Use → Use → ℕ
count_of uses one = count_by (are_of_one one) uses

-- the characters of uses, each with its count and the line of its first use, in the order of these
abbrev pub summary : List Use → List Lacking
summary uses = map (λ one. record { character = one.0; count = count_of uses one; line = one.1 }) (first_uses uses)

-- the characters that the lines of an input have and the table doesn't define; lines are counted
-- from 1
unfoldable pub lacking_of : TableView → List (List ℕ) → List Lacking
lacking_of t lines = summary (uses_from t 1 lines)
