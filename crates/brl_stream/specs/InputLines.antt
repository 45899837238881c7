-- The lines of an input. They end as the rows of a table file do, which is the project's own
-- choice.
use Rattle.std.specs.Prelude.{ℕ, Bool, ◌==◌, if◌then◌else◌, List, [], ◌∷◌, map, count_by, take, drop}
use Rattle.brl_lines.specs.Rows.{rows_of}

-- the lines of an input: its rows, without the places of the bytes
abbrev pub lines_of : List ℕ → List (List ℕ)
lines_of bytes = map (λ row. map (λ b. b.1) row) (rows_of bytes)

-- a line feed
abbrev pub is_feed : ℕ → Bool
is_feed b = b == 10

-- the number of lines that a line feed ends
abbrev pub feeds : List ℕ → ℕ
feeds bytes = count_by is_feed bytes

-- the lines that a line feed ends
abbrev pub ended : List ℕ → List (List ℕ)
ended bytes = take (feeds bytes) (lines_of bytes)

-- the bytes after the last line feed, as one line; no line where there are none
abbrev pub unended : List ℕ → List (List ℕ)
unended bytes = drop (feeds bytes) (lines_of bytes)

-- a line without a carriage return at its end
abbrev pub without_return : List ℕ → List ℕ
without_return [] = []
without_return (b ∷ []) = if b == 13 then [] else b ∷ []
without_return (b ∷ c ∷ bs) = b ∷ without_return (c ∷ bs)
