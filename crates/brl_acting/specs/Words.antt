-- The words of a line, its prefixes apart, and the characters that a word spells. The manual has
-- the prefixes in sections "The Context and Multipass Opcodes" and "Translation Opcodes".
use Rattle.std.specs.Prelude.{ℕ, zero, suc, ◌==◌, ◌-◌, ◌&&◌, ◌||◌, Bool, true, false, not, List, [], ◌∷◌, codes, filter, if◌then◌else◌, length, map, slice_get, take, Option, Some, None, Result, Ok, Err}
use Rattle.std.specs.Char.{is_digit}
use Rattle.std.specs.List.{list_any}
use Rattle.std.specs.Option.{option_and_then, unwrap_or}
use Rattle.std.specs.Str.{bytes_eq}
use Rattle.brl_lines.specs.Escapes.{characters_of}
use Rattle.brl_lines.specs.Tokens.{LineView}
use Rattle.brl_lines.specs.Views.{line_view}
use Rattle.brl_lines.specs.declared.operand.CharsFault.{CharsFault}
use Rattle.brl_acting.specs.Forms.{form_of}
use Rattle.brl_acting.specs.Sets.{is_one_of}
use Rattle.brl_acting.specs.declared.form.Form.{Form}
use Rattle.brl_acting.specs.declared.table_line.TableLine.{TableLine}

-- the words of a line, its opcode first
abbrev pub words_of : LineView → List (List ℕ)
words_of line = line.opcode.text ∷ map (λ token. token.text) line.operands

-- the word at a place; an empty one past the end
abbrev pub word_at : List (List ℕ) → ℕ → List ℕ
word_at words place = unwrap_or (slice_get words place) []

-- ---- Prefixes

-- how many words a prefix takes that begins with this one: 0 where it begins none
abbrev pub prefix_length : List ℕ → ℕ
prefix_length word =
    if is_one_of (codes "noback" ∷ codes "nofor" ∷ codes "nocross" ∷ codes "empmatchbefore" ∷ codes "empmatchafter" ∷ []) word then 1
    else if is_one_of (codes "before" ∷ codes "after" ∷ []) word then 2
    else 0

-- the words after the first ones, and after all prefixes that begin there
abbrev pub after_words : ℕ → List (List ℕ) → List (List ℕ)
after_words first [] = []
after_words (suc first) (word ∷ words) = after_words first words
after_words zero (word ∷ words) = if prefix_length word == 0 then word ∷ words else after_words (prefix_length word - 1) words

abbrev pub after_prefixes : List (List ℕ) → List (List ℕ)
after_prefixes words = after_words 0 words

-- the opcode of a line: the word after all prefixes; where none follows them, the first word
abbrev pub opcode_of : LineView → List ℕ
opcode_of line = unwrap_or (slice_get (after_prefixes (words_of line)) 0) line.opcode.text

-- the words of all prefixes
abbrev pub prefix_words : List (List ℕ) → List (List ℕ)
prefix_words words = take (length words - length (after_prefixes words)) words

-- a word of a prefix is none that begins one: it names a class
abbrev pub names_class : List ℕ → Bool
names_class word = prefix_length word == 0

abbrev pub classes_of_prefixes : List (List ℕ) → List (List ℕ)
classes_of_prefixes prefixes = filter names_class prefixes

-- A line as its needs see it: whether it is kept, whether it is a line with its neighbour, whether
-- `nofor` is among its prefixes, the classes that `before` and `after` name, its opcode with the
-- operands, and the form of the opcode's needs.
pub record LineParts : Type 0 where
  pub kept : Bool
  pub continued : Bool
  pub nofor : Bool
  pub classes : List (List ℕ)
  pub words : List (List ℕ)
  pub form : Option Form

-- the parts of these words
abbrev pub parts_by : Bool → Bool → List (List ℕ) → LineParts
parts_by kept continued words = record {
  kept = kept;
  continued = continued;
  nofor = list_any (bytes_eq (codes "nofor")) (prefix_words words);
  classes = classes_of_prefixes (prefix_words words);
  words = after_prefixes words;
  form = form_of (word_at (after_prefixes words) 0);
}

-- a line of a table: whether a cut keeps it, and whether it is one line with its neighbour
pub record TableLineView : Type 0 where
  pub line : LineView
  pub kept : Bool
  pub continued : Bool

abbrev pub table_line_view : TableLine → TableLineView
table_line_view line = record { line = line_view line.line.now; kept = line.kept; continued = line.continued }

abbrev pub parts_of : TableLineView → LineParts
parts_of line = parts_by line.kept line.continued (words_of line.line)

-- ---- Characters

-- a mark is a hexadecimal digit
abbrev pub is_hexadecimal : ℕ → Bool
is_hexadecimal mark = is_digit mark 16

-- what follows a backslash is `x` and four hexadecimal digits, at least
abbrev pub is_number : List ℕ → Bool
is_number (mark ∷ a ∷ b ∷ c ∷ d ∷ others) = (mark == 120) && is_hexadecimal a && is_hexadecimal b && is_hexadecimal c && is_hexadecimal d
is_number others = false

-- each escape of a word is a number of four digits, so that a bad one is of a surrogate
abbrev pub has_numbers_alone : List ℕ → Bool
has_numbers_alone [] = true
has_numbers_alone (byte ∷ bytes) = (not (byte == 92) || is_number bytes) && has_numbers_alone bytes

-- the mark of a surrogate, which is in no text: the last number of all characters, which is
-- none by Unicode, too
abbrev pub no_character : ℕ
no_character = 1114111

-- the characters that a word spells, if they can be known
abbrev pub chars_if : List ℕ → Result (List ℕ) CharsFault → Option (List ℕ)
chars_if word (Ok chars) = Some chars
chars_if word (Err fault) = None

abbrev pub chars_in : List ℕ → Option (List ℕ)
chars_in word = chars_if word (characters_of word)

-- the characters of a word that must all be in a text: with a surrogate they can't
abbrev pub all_chars_if : List ℕ → Result (List ℕ) CharsFault → Option (List ℕ)
all_chars_if word (Ok chars) = Some chars
all_chars_if word (Err fault) = if has_numbers_alone word then Some (no_character ∷ []) else None

abbrev pub all_chars_in : List ℕ → Option (List ℕ)
all_chars_in word = all_chars_if word (characters_of word)

-- the characters of the word at a place, where there is one
abbrev pub chars_at : List (List ℕ) → ℕ → Option (List ℕ)
chars_at words place = option_and_then chars_in (slice_get words place)

abbrev pub all_chars_at : List (List ℕ) → ℕ → Option (List ℕ)
all_chars_at words place = option_and_then all_chars_in (slice_get words place)
