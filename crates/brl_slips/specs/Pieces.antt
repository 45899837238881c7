-- Pieces of texts, and the spellings of a text by them. A piece is a run of characters that has
-- cells of its own: one character with its own definition, or the characters of a rule. The
-- project's own.
use Rattle.std.specs.Prelude.{ℕ, ◌≡◌, ◌≤◌, ◌<◌, All, List, [], flat_map, length, slice_get}
use Rattle.std.specs.Option.{option_map_or}
use Rattle.brl_slips.specs.declared.lexicon.Piece.{Piece}

-- the characters of the piece with a number; none where no piece has it
abbrev pub chars_at : List Piece → ℕ → List ℕ
chars_at pieces number = option_map_or (λ piece. piece.chars) (slice_get pieces number) []

-- the cells of the piece with a number; none where no piece has it
abbrev pub cells_at : List Piece → ℕ → List ℕ
cells_at pieces number = option_map_or (λ piece. piece.cells) (slice_get pieces number) []

-- the characters of pieces in a row, which are given by their numbers
abbrev pub chars_of : List Piece → List ℕ → List ℕ
chars_of pieces row = flat_map (chars_at pieces) row

-- the cells of pieces in a row
abbrev pub cells_of : List Piece → List ℕ → List ℕ
cells_of pieces row = flat_map (cells_at pieces) row

-- a piece may stand in a spelling of a text: it has a character or more, and is shorter than the
-- text
pub record IsPieceOf (pieces : List Piece) (text : List ℕ) (number : ℕ) : Type 0 where
  pub there : number < length pieces
  pub some : 1 ≤ length (chars_at pieces number)
  pub shorter : length (chars_at pieces number) < length text

-- pieces in a row are a spelling of a text: they are shorter than it, and make it up
pub record IsSpelling (pieces : List Piece) (text : List ℕ) (row : List ℕ) : Type 0 where
  pub each : All (IsPieceOf pieces text) row
  pub whole : chars_of pieces row ≡ text
