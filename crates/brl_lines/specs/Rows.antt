-- The rows of a text. This restates, of the section "Overview" in "How to Write Translation Tables"
-- of the liblouis User's and Programmer's Manual, that a table is a text of lines. How a row ends,
-- and that a byte order mark is skipped, is the project's own choice.
use Rattle.std.specs.Prelude.{ℕ, ◌-◌, Bool, false, ◌&&◌, ◌==◌, if◌then◌else◌, List, [], ◌∷◌, drop, take}
use Rattle.std.specs.List.{enumerate_from}
use Rattle.std.specs.Str.{bytes_eq}

-- A byte with its place in the text is a pair of the place and the byte.

-- the bytes of a text from place i up to place j, each with its place
abbrev pub piece : List ℕ → ℕ → ℕ → List (ℕ × ℕ)
piece text i j = enumerate_from i (take (j - i) (drop i text))

-- x, at the start of the first list
abbrev pub onto : {X : Type 0} → X → List (List X) → List (List X)
onto x [] = (x ∷ []) ∷ []
onto x (first ∷ others) = (x ∷ first) ∷ others

-- a line feed comes next
abbrev pub feed_is_next : List (ℕ × ℕ) → Bool
feed_is_next [] = false
feed_is_next (b ∷ bs) = b.1 == 10

-- the rows of the bytes: a line feed ends one, and a carriage return directly before it belongs to
-- its end
abbrev pub rows : List (ℕ × ℕ) → List (List (ℕ × ℕ))
rows [] = []
rows (b ∷ bs) = if b.1 == 10 then [] ∷ rows bs else if (b.1 == 13) && feed_is_next bs then rows bs else onto b (rows bs)

-- the rows of a text
abbrev pub rows_of : List ℕ → List (List (ℕ × ℕ))
rows_of text = rows (enumerate_from 0 text)

-- the bytes of U+FEFF
abbrev pub order_mark : List ℕ
order_mark = 239 ∷ 187 ∷ 191 ∷ []

-- a file's text begins after a byte order mark
abbrev pub without_mark : List ℕ → List ℕ
without_mark bytes = if bytes_eq (take 3 bytes) order_mark then drop 3 bytes else bytes
