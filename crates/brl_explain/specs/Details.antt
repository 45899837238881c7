-- What can be seen in the line of a fault itself. The project's own choice.
use Rattle.std.specs.Prelude.{ℕ, ◌==◌, ◌/◌, ◌%◌, Bool, ◌&&◌, ◌||◌, not, if◌then◌else◌, List, [], ◌∷◌, ◌++◌, Option, Some, None, Result, Ok, Err, codes, flat_map, length, nat_eq, nat_le, nat_lt, option_map, decimal, bytes_eq, chars, encode_utf8_all}
use Rattle.std.specs.Char.{digit_char}
use Rattle.std.specs.List.{after_first, before_first, find, list_any}
use Rattle.std.specs.Option.{option_or}
use Rattle.brl_cells.specs.Dots.{is_among, reading}
use Rattle.brl_cells.specs.declared.fault.DotsFault.{DotsFault}
use Rattle.brl_cells.specs.declared.fault.DotsFault.TheVariants.{BadDot, EmptyCell, RepeatedDot, TooManyCells}
use Rattle.brl_explain.specs.Explaining.{code_of, is_blank, text_of_fault}
use Rattle.brl_explain.specs.Opcodes.{opcode_note}
use Rattle.brl_lines.specs.Escapes.{characters_of}
use Rattle.brl_lines.specs.declared.operand.CharsFault.{CharsFault}

-- ---- Characters

-- a character that may be taken for another, or not be seen: any but a blank and the visible ones
-- of ASCII
abbrev pub is_unclear : ℕ → Bool
is_unclear c = nat_lt c 32 || nat_le 127 c

-- the two hexadecimal digits of a byte
abbrev pub byte_digits : ℕ → List ℕ
byte_digits byte = digit_char (byte / 16) ∷ digit_char (byte % 16) ∷ []

-- a character by its number, as an operand of a table may spell it
abbrev pub by_number : ℕ → List ℕ
by_number c =
    if nat_lt c 65536 then codes "\\x" ++ byte_digits (c / 256) ++ byte_digits (c % 256)
    else codes "\\z00" ++ byte_digits (c / 65536) ++ byte_digits (c / 256 % 256) ++ byte_digits (c % 256)

-- an unclear character by its number, after a blank
abbrev pub unclear_spelling : ℕ → List ℕ
unclear_spelling c = if is_unclear c then codes " " ++ by_number c else []

-- a line with a title, unless there is nothing to follow it
abbrev pub titled : List ℕ → List ℕ → List ℕ
titled title [] = []
titled title (byte ∷ bytes) = title ++ (byte ∷ bytes) ++ codes "\n"

-- the unclear characters of a line, in order, by their numbers
abbrev pub characters_line : List ℕ → List ℕ
characters_line line = titled (codes "Characters:") (flat_map unclear_spelling (chars line))

-- ---- Dots

-- the operand that a fault's line names: its third word
abbrev pub operand_of : List ℕ → List ℕ
operand_of line = before_first is_blank (after_first is_blank (after_first is_blank line))

-- whether a character is a virtual dot of liblouis
abbrev pub is_virtual : ℕ → Bool
is_virtual c = is_among (codes "9abcdefABCDEF") c

-- whether a character of dots is a dot, or the blank cell, or joins cells
abbrev pub is_mark : ℕ → Bool
is_mark c = is_among (codes "012345678-") c

-- the first character of dots that is none of these, and no virtual dot; where none is, the first
-- virtual dot
abbrev pub odd_mark : List ℕ → Option ℕ
odd_mark dots = option_or (find (λ c. not (is_mark c || is_virtual c)) (chars dots)) (find is_virtual (chars dots))

-- the note on the first character of dots that is no dot
abbrev pub mark_note : Option ℕ → List ℕ
mark_note (Some c) = encode_utf8_all (c ∷ []) ++ (if is_virtual c then codes " is a virtual dot, which isn't read" else codes " is no dot")
mark_note None = codes "0 is a cell by itself"

-- the note on dots that spell no cells, or more than 16; empty for other dots
abbrev pub dots_note : List ℕ → Result (List ℕ) DotsFault → List ℕ
dots_note dots (Ok cells) = []
dots_note dots (Err EmptyCell) = codes "a cell is empty"
dots_note dots (Err BadDot) = mark_note (odd_mark dots)
dots_note dots (Err RepeatedDot) = codes "a dot is in a cell twice"
dots_note dots (Err TooManyCells) = codes "there are more than 16 cells"

-- the note on the dots of one side of a comma
abbrev pub side_note : List ℕ → List ℕ
side_note dots = dots_note dots (reading 16 dots)

-- the first of two texts, unless it is empty
abbrev pub first_filled : List ℕ → List ℕ → List ℕ
first_filled [] other = other
first_filled (byte ∷ bytes) other = byte ∷ bytes

-- a comma, which parts the dots of the two cases in `uplow`
abbrev pub is_comma : ℕ → Bool
is_comma byte = nat_eq byte 44

-- the note on dots before a comma or, where these are right, on those after it; where both are
-- right, on the comma
abbrev pub sides_note : List ℕ → List ℕ → List ℕ
sides_note upper lower = first_filled (side_note upper) (first_filled (side_note lower) (codes "a comma is read in uplow alone"))

-- the note on dots, which one comma may part
abbrev pub whole_note : List ℕ → List ℕ
whole_note dots = if list_any is_comma dots then sides_note (before_first is_comma dots) (after_first is_comma dots) else side_note dots

-- the line of what is wrong with dots
abbrev pub note_line : List ℕ → List ℕ
note_line dots = titled (codes "Dots: ") (whole_note dots)

-- what is wrong with the dots that a line names, if its fault is of dots and it names some
abbrev pub dots_line : List ℕ → List ℕ
dots_line line = if bytes_eq (code_of line) (codes "B4") && nat_lt 0 (length (operand_of line)) then note_line (operand_of line) else []

-- ---- Characters that an operand spells

-- how many characters are spelled where one is taken, or by `uplow` two; or that an escape is bad
abbrev pub count_note : Result (List ℕ) CharsFault → List ℕ
count_note (Err fault) = codes "a backslash there begins no escape"
count_note (Ok characters) =
    if length characters == 1 then codes "1 character, where uplow takes two different ones"
    else decimal (length characters) ++ codes " characters, where exactly one is taken, or by uplow two different ones"

-- what is wrong with the characters that a line names, if its fault is of them and it names some
abbrev pub count_line : List ℕ → List ℕ
count_line line =
    if bytes_eq (code_of line) (codes "B3") && nat_lt 0 (length (operand_of line)) then titled (codes "Operand: ") (count_note (characters_of (operand_of line)))
    else []

-- ---- Opcodes

-- the note on the opcode that a line names, where its fault is of an opcode
abbrev pub opcode_line : List ℕ → List ℕ
opcode_line line =
    if bytes_eq (code_of line) (codes "B1") && nat_lt 0 (length (operand_of line)) then titled (codes "Opcode: ") (opcode_note (operand_of line))
    else []

-- ---- The whole explanation

-- what explains a line: the text for its fault, and what can be seen
abbrev pub explanation : List ℕ → List ℕ → List ℕ
explanation text line = text ++ opcode_line line ++ dots_line line ++ count_line line ++ characters_line line

-- what explains a line, if there is a text for its fault
abbrev pub explanation_of : List ℕ → Option (List ℕ)
explanation_of line = option_map (λ text. explanation text line) (text_of_fault line)
