-- Where the tokens of a line are in their file's text. The project's own.
use Rattle.std.specs.Prelude.{◌≡◌, ℕ, ◌+◌, ◌<◌, List, [], ◌∷◌, length, drop, take}
use Rattle.std.specs.List.{AllByRecursion}
use Rattle.brl_lines.specs.Tokens.{LineView, TokenView}

-- the token is the slice of the text at its start
abbrev pub IsSlice : List ℕ → TokenView → Type 0
IsSlice text token = take (length token.text) (drop token.start text) ≡ token.text

-- each token of the line is a slice of the text
abbrev pub IsCutFrom : List ℕ → LineView → Type 0
IsCutFrom text line = AllByRecursion (IsSlice text) (line.opcode ∷ line.operands)

-- the tokens, if there are any, begin after this place
abbrev pub BeginsAfter : ℕ → List TokenView → Type 0
BeginsAfter place [] = Unit {0}
BeginsAfter place (token ∷ others) = place < token.start

-- each token begins after the end of the one before it
abbrev pub AreInOrder : List TokenView → Type 0
AreInOrder [] = Unit {0}
AreInOrder (token ∷ others) = BeginsAfter (token.start + length token.text) others × AreInOrder others

-- the tokens of the line are in order and don't overlap
abbrev pub IsInOrder : LineView → Type 0
IsInOrder line = AreInOrder (line.opcode ∷ line.operands)
