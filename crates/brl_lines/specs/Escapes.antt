-- The characters that an operand spells. This restates, of the section "Overview" in "How to Write
-- Translation Tables" of the liblouis User's and Programmer's Manual, how characters are written in
-- operands, with their escapes.
use Rattle.std.specs.Prelude.{ℕ, zero, suc, ◌+◌, ◌*◌, ◌==◌, if◌then◌else◌, List, [], ◌∷◌, Option, Some, None, Result, ok_or, option_map}
use Rattle.std.specs.Char.{digit_value, is_digit}
use Rattle.std.specs.Option.{option_and_then}
use Rattle.std.specs.Str.{all_scalars, chars}
use Rattle.brl_lines.specs.declared.operand.CharsFault.{CharsFault}
use Rattle.brl_lines.specs.declared.operand.CharsFault.TheVariants.{BadEscape}

-- the character that an escape of one mark means: a backslash, a form feed, a line feed, a carriage
-- return, a blank, a tab, a vertical tab and the character 27
abbrev pub named : ℕ → Option ℕ
named mark =
    if mark == 92 then Some 92
    else if mark == 102 then Some 12
    else if mark == 110 then Some 10
    else if mark == 114 then Some 13
    else if mark == 115 then Some 32
    else if mark == 116 then Some 9
    else if mark == 118 then Some 11
    else if mark == 101 then Some 27
    else None

-- how many hexadecimal digits follow the mark `x`, `y` or `z`
abbrev pub digits_after : ℕ → Option ℕ
digits_after mark =
    if mark == 120 then Some 4
    else if mark == 121 then Some 5
    else if mark == 122 then Some 8
    else None

-- the number that the given number of hexadecimal digits write, in either case, after digits that
-- write value
unfoldable pub hexadecimal : ℕ → ℕ → List ℕ → Option ℕ
hexadecimal zero value marks = Some value
hexadecimal (suc count) value [] = None
hexadecimal (suc count) value (mark ∷ marks) = if is_digit mark 16 then hexadecimal count (value * 16 + digit_value mark) marks else None

-- the character of a number
abbrev pub character : ℕ → Option ℕ
character code = if all_scalars (code ∷ []) then Some code else None

-- the character that an escape by number means, and how many marks the escape takes
abbrev pub numbered : ℕ → List ℕ → Option (ℕ × ℕ)
numbered mark marks = option_and_then (λ count. option_map (λ c. (c, count + 1)) (option_and_then character (hexadecimal count 0 marks))) (digits_after mark)

-- an escape of one mark, or else another
abbrev pub or_else : Option ℕ → Option (ℕ × ℕ) → Option (ℕ × ℕ)
or_else (Some c) other = Some (c, 1)
or_else None other = other

-- any escape, whose marks follow the backslash: its character, and how many of the marks it takes
abbrev pub escape : List ℕ → Option (ℕ × ℕ)
escape [] = None
escape (mark ∷ marks) = or_else (named mark) (numbered mark marks)

-- the characters that the marks spell, but for the first of them that an escape has taken; None at
-- a bad escape
unfoldable pub spelled : ℕ → List ℕ → Option (List ℕ)
spelled taken [] = Some []
spelled (suc taken) (mark ∷ marks) = spelled taken marks
spelled zero (mark ∷ marks) =
    if mark == 92 then option_and_then (λ e. option_map (λ cs. e.0 ∷ cs) (spelled e.1 marks)) (escape marks)
    else option_map (λ cs. mark ∷ cs) (spelled zero marks)

-- the characters that an operand spells
abbrev pub characters_of : List ℕ → Result (List ℕ) CharsFault
characters_of operand = ok_or (spelled 0 (chars operand)) BadEscape
