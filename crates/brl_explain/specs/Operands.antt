-- Notes on the operands of a line that has a fault. The project's own choice.
use Rattle.std.specs.Prelude.{ℕ, ◌==◌, Bool, true, false, ◌&&◌, ◌||◌, not, if◌then◌else◌, is_some, List, [], ◌∷◌, ◌++◌, Option, Some, None, Result, Ok, Err, codes, drop, flat_map, length, nat_eq, nat_le, bytes_eq, encode_utf8_all}
use Rattle.std.specs.List.{list_any}
use Rattle.std.specs.Map.{lookup}
use Rattle.std.specs.Option.{option_map_or}
use Rattle.brl_cells.specs.Dots.{reading}
use Rattle.brl_cells.specs.declared.fault.DotsFault.{DotsFault}
use Rattle.brl_explain.specs.Details.{operand_of, titled}
use Rattle.brl_explain.specs.Explaining.{code_of}
use Rattle.brl_lines.specs.Escapes.{characters_of}
use Rattle.brl_lines.specs.Visible.{visible_text}
use Rattle.brl_lines.specs.Tokens.{LineView, TokenView}
use Rattle.brl_lines.specs.declared.operand.CharsFault.{CharsFault}
use Rattle.brl_rules.specs.declared.rule.Info.{Info}
use Rattle.brl_table.specs.Opcodes.{opcode_of}
use Rattle.brl_table.specs.Survey.{good_characters}
use Rattle.brl_table.specs.Words.{sign_given}

-- whether a word comes before the opcode of a rule
abbrev pub is_prefix : List ℕ → Bool
is_prefix word = bytes_eq word (codes "noback") || bytes_eq word (codes "nofor")

-- the operands of a line; after `noback` or `nofor` those of the rule
abbrev pub own_operands : LineView → List TokenView
own_operands line = if is_prefix line.opcode.text then drop 1 line.operands else line.operands

-- ---- Operands that seem to be swapped

-- a digit
abbrev pub is_digit : ℕ → Bool
is_digit byte = nat_le 48 byte && nat_le byte 57

-- whether dots spell cells
abbrev pub are_cells : Result (List ℕ) DotsFault → Bool
are_cells (Ok cells) = true
are_cells (Err fault) = false

-- whether the first operand spells cells, and the second, whose dots these are, has no digit
abbrev pub are_swapped : List ℕ → List TokenView → Bool
are_swapped dots (first ∷ second ∷ others) = bytes_eq second.text dots && (not (list_any is_digit dots) && are_cells (reading 16 first.text))
are_swapped dots others = false

-- the note that the operands of a line seem to be swapped, where its fault is of dots
abbrev pub swapped_line : List ℕ → LineView → List ℕ
swapped_line fault line =
    if bytes_eq (code_of fault) (codes "B4") && are_swapped (operand_of fault) (own_operands line)
    then codes "Operands: they seem to be swapped, since characters come before their dots\n" else []

-- ---- Operands that are missing

-- the operand of an opcode that needs one; the others need characters and dots
abbrev pub only_operand : List ℕ → Option (List ℕ)
only_operand word =
    if is_some (sign_given (opcode_of word)) then Some (codes "dots")
    else if bytes_eq word (codes "numericmodechars") || bytes_eq word (codes "numericnocontchars") then Some (codes "characters")
    else if bytes_eq word (codes "include") then Some (codes "the name of a file")
    else if is_prefix word then Some (codes "a rule")
    else None

-- what lacks of one operand after this number of operands
abbrev pub lacking_of_one : ℕ → List ℕ → List ℕ
lacking_of_one operands only = if operands == 0 then only else []

-- what lacks of characters and dots
abbrev pub lacking_of_two : ℕ → List ℕ
lacking_of_two operands = if operands == 0 then codes "characters and dots" else if operands == 1 then codes "dots" else []

-- what lacks of the operands that an opcode needs
abbrev pub lacking : List ℕ → ℕ → List ℕ
lacking word operands = option_map_or (lacking_of_one operands) (only_operand word) (lacking_of_two operands)

-- what a line lacks of the operands that its opcode needs, where its fault is that one is missing
abbrev pub missing_line : List ℕ → LineView → List ℕ
missing_line fault line =
    if bytes_eq (code_of fault) (codes "B2") then titled (codes "Missing: ") (lacking (operand_of fault) (length (own_operands line))) else []

-- ---- Characters that no line defines

-- a character, spelled after a blank, unless it is one of these
abbrev pub spelled_unless : List (ℕ × Info) → ℕ → List ℕ
spelled_unless known c = if is_some (lookup (nat_eq c) known) then [] else codes " " ++ encode_utf8_all (visible_text (c ∷ []))

-- the characters that an operand spells; none where it spells none
abbrev pub characters_or_none : Result (List ℕ) CharsFault → List ℕ
characters_or_none (Ok characters) = characters
characters_or_none (Err fault) = []

-- whether a fault is that no line defines a character
abbrev pub is_undefined : List ℕ → Bool
is_undefined code = bytes_eq code (codes "B5") || bytes_eq code (codes "B6")

-- the characters of a fault's operand that no line of a file defines, where that is its fault
abbrev pub undefined_line : List ℕ → List ℕ → List LineView → List ℕ
undefined_line fault file lines =
    if is_undefined (code_of fault)
    then titled (codes "Not defined in " ++ file ++ codes ":") (flat_map (spelled_unless (good_characters lines)) (characters_or_none (characters_of (operand_of fault)))) else []
