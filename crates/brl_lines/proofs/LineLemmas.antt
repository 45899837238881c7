-- The lines of what is left of a text.
use Rattle.std.proofs.Common.{◌≡◌, ℕ, ◌+◌, ◌++◌, ◌∷◌, [], List, false, length, map, refl, ap, add-one}
use Rattle.brl_lines.proofs.PieceLemmas.{piece_none, piece_whole}
use Rattle.brl_lines.specs.Rows.{piece, rows}
use Rattle.brl_lines.specs.Steps.{lines_from}
use Rattle.brl_lines.specs.Tokens.{TokenView, is_comment, line_of, lines_in, token_of, tokens}

-- a whole text is left
pub lines_from-whole : (file text : List ℕ) → lines_from file 1 (piece text 0 (length text)) ≡ lines_in file text
unfolding lines_in
lines_from-whole file text = ap (λ left. lines_from file 1 left) (piece_whole text)

-- one row is cut off
pub lines_from-row : (file : List ℕ) (number : ℕ) (left row rest : List (ℕ × ℕ)) → rows left ≡ row ∷ rows rest
    → lines_from file number left ≡ line_of file number (map token_of (tokens row)) ++ lines_from file (number + 1) rest
lines_from-row file number left row rest e = rw (e, add-one) refl

-- a row whose first token is no comment is a line
pub line_of-plain : (file : List ℕ) (number : ℕ) (first : TokenView) (others : List TokenView) → is_comment first ≡ false
    → line_of file number (first ∷ others) ≡ record { file = file; line = number; opcode = first; operands = others } ∷ []
line_of-plain file number first others e = rw e refl

-- nothing is left
pub lines_from-end : (file : List ℕ) (number : ℕ) (text : List ℕ) (at : ℕ) → at ≡ length text → lines_from file number (piece text at (length text)) ≡ []
lines_from-end file number text at e = rw (e, piece_none text (length text)) refl
