-- The tokens of a row, and the lines that do something. This restates, of the section "Overview" in
-- "How to Write Translation Tables" of the liblouis User's and Programmer's Manual, that a line is
-- an opcode and its operands, parted by blanks or tabs, and that an empty line and one that begins
-- with `#` do nothing.
use Rattle.std.specs.Prelude.{ℕ, Bool, true, ◌||◌, ◌==◌, if◌then◌else◌, List, [], ◌∷◌, map, slice_index}
use Rattle.std.specs.List.{enumerate_from, flat_map}
use Rattle.brl_lines.specs.Rows.{onto, rows_of}

-- a blank or a tab
abbrev pub is_gap : ℕ → Bool
is_gap b = (b == 32) || (b == 9)

-- the row ends here, or a blank or a tab comes next
abbrev pub gap_is_next : List (ℕ × ℕ) → Bool
gap_is_next [] = true
gap_is_next (b ∷ bs) = is_gap b.1

-- the tokens of a row, between blanks and tabs
abbrev pub tokens : List (ℕ × ℕ) → List (List (ℕ × ℕ))
tokens [] = []
tokens (b ∷ bs) = if is_gap b.1 then tokens bs else if gap_is_next bs then (b ∷ []) ∷ tokens bs else onto b (tokens bs)

-- the bytes of a token, and the place of its first byte in its file's text
pub record TokenView : Type 0 where
  pub text : List ℕ
  pub start : ℕ

-- a token from its bytes, each with its place
abbrev pub token_of : List (ℕ × ℕ) → TokenView
token_of [] = record { text = []; start = 0 }
token_of (b ∷ bs) = record { text = b.1 ∷ map (λ c. c.1) bs; start = b.0 }

-- a line that does something: its file's path, its number from 1, and its tokens
pub record LineView : Type 0 where
  pub file : List ℕ
  pub line : ℕ
  pub opcode : TokenView
  pub operands : List TokenView

-- the first byte is `#`
abbrev pub is_comment : TokenView → Bool
is_comment token = slice_index token.text 0 == 35

-- the line that a row with these tokens is, or nothing
abbrev pub line_of : List ℕ → ℕ → List TokenView → List LineView
line_of file number [] = []
line_of file number (first ∷ others) = if is_comment first then [] else record { file = file; line = number; opcode = first; operands = others } ∷ []

-- the lines of a file's text that do something, in order
unfoldable pub lines_in : List ℕ → List ℕ → List LineView
lines_in file text = flat_map (λ row. line_of file row.0 (map token_of (tokens row.1))) (enumerate_from 1 (rows_of text))
