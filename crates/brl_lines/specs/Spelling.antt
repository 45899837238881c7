-- How characters are written so that an operand of a table spells them ("Overview" in "How to Write
-- Translation Tables" of the liblouis User's and Programmer's Manual has the escapes). Which
-- characters are written by an escape is this project's own choice: those that an escape of one
-- mark means, and all other control characters.
use Rattle.std.specs.Prelude.{ℕ, ◌/◌, ◌%◌, ◌==◌, if◌then◌else◌, Bool, false, List, [], ◌∷◌, ◌++◌, Option, Some, None, codes, find, flat_map}
use Rattle.std.specs.Char.{digit_char, is_ascii_control}
use Rattle.std.specs.Option.{option_map_or}
use Rattle.brl_lines.specs.Escapes.{named}

-- the marks of the escapes of one mark
abbrev pub escape_marks : List ℕ
escape_marks = codes "\\fnrstve"

-- whether the escape of this mark means the character
abbrev pub means : ℕ → ℕ → Bool
means c mark = option_map_or (λ meant. meant == c) (named mark) false

-- a control character by its number, and any other by itself
abbrev pub spelled_by_number : ℕ → List ℕ
spelled_by_number c = if is_ascii_control c then codes "\\x00" ++ digit_char (c / 16) ∷ digit_char (c % 16) ∷ [] else c ∷ []

-- an escape of one mark, where there is one
abbrev pub spelled_by_mark : Option ℕ → ℕ → List ℕ
spelled_by_mark (Some mark) c = 92 ∷ mark ∷ []
spelled_by_mark None c = spelled_by_number c

-- the marks that spell a character
abbrev pub character_spelling : ℕ → List ℕ
character_spelling c = spelled_by_mark (find (means c) escape_marks) c

-- the marks that spell a text: those of its characters one after the other
abbrev pub text_spelling : List ℕ → List ℕ
text_spelling text = flat_map character_spelling text
