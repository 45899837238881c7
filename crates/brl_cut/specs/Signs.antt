-- The cells of two indicators that lines give. The manual has them in section "Braille Indicator
-- Opcodes". Of several `letsign` lines the last decides, and of several `nocontractsign` lines the
-- first, as tests of liblouis found.
use Rattle.std.specs.Prelude.{ℕ, if◌then◌else◌, List, [], ◌∷◌, codes, fold, Option, Some, None, Result, Ok, Err}
use Rattle.std.specs.Option.{option_map_or}
use Rattle.std.specs.Str.{bytes_eq}
use Rattle.brl_cells.specs.Dots.{reading}
use Rattle.brl_cells.specs.declared.fault.DotsFault.{DotsFault}
use Rattle.brl_lines.specs.Tokens.{LineView, TokenView}
use Rattle.brl_cut.specs.declared.signs.Sign.{Sign}

-- the cells of an indicator, and the place of the line that gives them
pub record SignView : Type 0 where
  pub file : List ℕ
  pub line : ℕ
  pub cells : List ℕ

abbrev pub sign_view : Sign → SignView
sign_view sign = record { file = sign.file.now; line = sign.line; cells = sign.cells }

-- the sign of a line whose first operand spells these cells
abbrev pub sign_if : LineView → Result (List ℕ) DotsFault → Option SignView
sign_if line (Ok cells) = Some (record { file = line.file; line = line.line; cells = cells })
sign_if line (Err fault) = None

abbrev pub sign_of_operands : LineView → List TokenView → Option SignView
sign_of_operands line [] = None
sign_of_operands line (dots ∷ comment) = sign_if line (reading 16 dots.text)

-- the sign that a line gives, if it has this opcode
abbrev pub sign_in : List ℕ → LineView → Option SignView
sign_in opcode line = if bytes_eq line.opcode.text opcode then sign_of_operands line line.operands else None

-- the first or the last of two signs that there is
abbrev pub earlier : Option SignView → Option SignView → Option SignView
earlier (Some sign) other = Some sign
earlier None other = other

abbrev pub first_sign : List ℕ → List LineView → Option SignView
first_sign opcode lines = fold (λ found line. earlier found (sign_in opcode line)) None lines

abbrev pub last_sign : List ℕ → List LineView → Option SignView
last_sign opcode lines = fold (λ found line. earlier (sign_in opcode line) found) None lines

-- the cells of a sign; none where there is no line that gives it
abbrev pub cells_of : Option SignView → List ℕ
cells_of sign = option_map_or (λ s. s.cells) sign []

-- the sign before a letter that is alone, of these lines
abbrev pub letsign_of : List LineView → Option SignView
letsign_of lines = last_sign (codes "letsign") lines
