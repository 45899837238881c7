-- Lines that begin with `contraction`. The manual has this opcode in section "Translation Opcodes".
-- Liblouis reads such a line as the `word` rule of its characters, with the cells of two indicators
-- before theirs, as tests found. It does so for small letters; lines of others aren't rewritten.
use Rattle.std.specs.Prelude.{ℕ, Bool, false, ◌&&◌, not, nat_eq, nat_le, if◌then◌else◌, List, [], ◌∷◌, ◌++◌, codes, flat_map, length, Option, Result, Ok, Err}
use Rattle.std.specs.List.{list_all}
use Rattle.std.specs.Map.{lookup}
use Rattle.std.specs.Option.{option_map_or}
use Rattle.std.specs.Str.{bytes_eq}
use Rattle.brl_cells.specs.Dots.{spelling}
use Rattle.brl_lines.specs.Escapes.{characters_of}
use Rattle.brl_lines.specs.Tokens.{LineView, TokenView}
use Rattle.brl_lines.specs.declared.operand.CharsFault.{CharsFault}
use Rattle.brl_rules.specs.Text.{is_capital}
use Rattle.brl_rules.specs.declared.rule.Info.{Info}
use Rattle.brl_table.specs.Survey.{good_characters}
use Rattle.brl_cut.specs.Edits.{EditView}
use Rattle.brl_cut.specs.Putting.{edit_to, words_in_place}
use Rattle.brl_cut.specs.Signs.{SignView, cells_of, first_sign, letsign_of}

-- ---- The cells of indicators

-- the cells before those of the characters, where this sign is that before a letter
abbrev pub cells_before : List LineView → Option SignView → List ℕ
cells_before lines letsign = cells_of (first_sign (codes "nocontractsign") lines) ++ cells_of letsign

abbrev pub sign_cells : List LineView → List ℕ
sign_cells lines = cells_before lines (letsign_of lines)

-- ---- The cells of characters

-- a character is one of these, and no capital
abbrev pub is_small : List (ℕ × Info) → ℕ → Bool
is_small characters c = option_map_or (λ info. not (is_capital info.classes)) (lookup (nat_eq c) characters) false

-- the cells of its own definition
abbrev pub own_cells : List (ℕ × Info) → ℕ → List ℕ
own_cells characters c = option_map_or (λ info. info.cells) (lookup (nat_eq c) characters) []

-- the cells of a contraction
abbrev pub contraction_cells : List (ℕ × Info) → List ℕ → List ℕ → List ℕ
contraction_cells characters signs chars = signs ++ flat_map (own_cells characters) chars

-- ---- Edits

-- whether there may be a rule of these characters, each of which is small, with these cells. Each
-- has a cell, so they aren't more than a rule may have.
abbrev pub may_be_rule : List (ℕ × Info) → List ℕ → List ℕ → Bool
may_be_rule characters chars cells = list_all (is_small characters) chars && nat_le (length cells) 16

-- the edit that puts the `word` line of these characters, as a word spells them, before a line
abbrev pub edit_to_rule : List (ℕ × Info) → LineView → List ℕ → List ℕ → List ℕ → List EditView
edit_to_rule characters line word chars cells =
    if may_be_rule characters chars cells then edit_to (words_in_place line (codes "word") word (spelling cells)) ∷ [] else []

abbrev pub edit_of_chars : List (ℕ × Info) → List ℕ → LineView → List ℕ → Result (List ℕ) CharsFault → List EditView
edit_of_chars characters signs line word (Ok chars) = edit_to_rule characters line word chars (contraction_cells characters signs chars)
edit_of_chars characters signs line word (Err fault) = []

-- the edit of a line that begins with `contraction` and has these operands
abbrev pub edit_of_operands : List (ℕ × Info) → List ℕ → LineView → List TokenView → List EditView
edit_of_operands characters signs line [] = []
edit_of_operands characters signs line (first ∷ comment) = edit_of_chars characters signs line first.text (characters_of first.text)

-- the edit of a line that begins with `contraction`
abbrev pub contraction_edit : List (ℕ × Info) → List ℕ → LineView → List EditView
contraction_edit characters signs line = if bytes_eq line.opcode.text (codes "contraction") then edit_of_operands characters signs line line.operands else []

-- the edits of these lines, with the characters and the indicators that they define
abbrev pub contraction_edits : List LineView → List EditView
contraction_edits lines = flat_map (contraction_edit (good_characters lines) (sign_cells lines)) lines
