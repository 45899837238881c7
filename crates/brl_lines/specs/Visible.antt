-- How characters are written where a person reads them: those that can't be seen are spelled by
-- escapes. Which these are is this project's own choice, by their properties in Unicode.
use Rattle.std.specs.Prelude.{ℕ, ◌/◌, ◌%◌, ◌==◌, ◌&&◌, ◌||◌, if◌then◌else◌, Bool, true, false, List, [], ◌∷◌, ◌++◌, Option, Some, None, codes, find, flat_map, nat_le, nat_lt}
use Rattle.std.specs.Char.{digit_char}
use Rattle.std.specs.Str.{chars, encode_utf8_all}
use Rattle.brl_lines.specs.Spelling.{escape_marks, means}
use Rattle.brl_lines.specs.Tokens.{is_gap}
use Rattle.ucd_category.specs.GeneralCategory.{general_category}
use Rattle.ucd_category.specs.declared.GeneralCategory.{GeneralCategory}
use Rattle.ucd_category.specs.declared.GeneralCategory.TheVariants.{Control, EnclosingMark, Format, LineSeparator, NonspacingMark, ParagraphSeparator, PrivateUse, SpaceSeparator}
use Rattle.ucd_derived.specs.Binary.{is_default_ignorable_code_point}

-- ---- What can't be seen

-- whether the characters of a general category can't be seen
abbrev pub is_unseen_category : GeneralCategory → Bool
is_unseen_category Control = true
is_unseen_category Format = true
is_unseen_category PrivateUse = true
is_unseen_category SpaceSeparator = true
is_unseen_category LineSeparator = true
is_unseen_category ParagraphSeparator = true
is_unseen_category category = false

-- whether a character can't be seen: a blank or a control character; a character of such a
-- category; one that Unicode ignores by default; or the braille pattern without dots
abbrev pub is_unseen : ℕ → Bool
is_unseen c =
    if nat_lt c 127 then nat_le c 32
    else is_unseen_category (general_category c) || is_default_ignorable_code_point c || (c == 0x2800)

-- whether the characters of a general category are combining marks
abbrev pub is_mark_category : GeneralCategory → Bool
is_mark_category NonspacingMark = true
is_mark_category EnclosingMark = true
is_mark_category category = false

-- whether a character is a combining mark, which is drawn over the character before it
abbrev pub is_mark : ℕ → Bool
is_mark c = if nat_lt c 127 then false else is_mark_category (general_category c)

-- whether a character is spelled: it can't be seen, or is a combining mark at the beginning
abbrev pub is_hidden : Bool → ℕ → Bool
is_hidden first c = is_unseen c || (first && is_mark c)

-- ---- How it is spelled

-- the two hexadecimal digits of a number below 256
abbrev pub two_digits : ℕ → List ℕ
two_digits n = digit_char (n / 16) ∷ digit_char (n % 16) ∷ []

-- the escape by number of a character up to its last four digits: of four digits, five, or eight
abbrev pub number_prefix : ℕ → List ℕ
number_prefix c =
    if nat_lt c 0x10000 then codes "\\x"
    else if nat_lt c 0x100000 then codes "\\y" ++ (digit_char (c / 0x10000) ∷ [])
    else codes "\\z00" ++ two_digits (c / 0x10000)

-- a character by its number
abbrev pub by_number : ℕ → List ℕ
by_number c = number_prefix c ++ (two_digits (c / 256 % 256) ++ two_digits (c % 256))

-- a character that no escape of one mark means
abbrev pub seen_or_numbered : Bool → ℕ → List ℕ
seen_or_numbered first c = if is_hidden first c then by_number c else c ∷ []

-- a character by an escape of one mark, where there is one
abbrev pub by_mark : Option ℕ → Bool → ℕ → List ℕ
by_mark (Some mark) first c = 92 ∷ mark ∷ []
by_mark None first c = seen_or_numbered first c

-- how a character is written
abbrev pub visible_character : Bool → ℕ → List ℕ
visible_character first c = by_mark (find (means c) escape_marks) first c

-- how a text is written, so that an operand of a table spells it
abbrev pub visible_text : List ℕ → List ℕ
visible_text [] = []
visible_text (c ∷ text) = visible_character true c ++ flat_map (visible_character false) text

-- ---- Lines

-- how a character of a line is written, in which blanks and tabs part words and a backslash begins
-- an escape: these three stay
abbrev pub line_character : Bool → ℕ → List ℕ
line_character first c = if is_gap c || (c == 92) then c ∷ [] else visible_character first c

-- how the characters of a line are written from some on, which begin a word or not
abbrev pub line_from : Bool → List ℕ → List ℕ
line_from first [] = []
line_from first (c ∷ cs) = line_character first c ++ line_from (is_gap c) cs

-- a line in which what can't be seen is spelled
abbrev pub visible_line : List ℕ → List ℕ
visible_line line = encode_utf8_all (line_from true (chars line))
