-- What a line gives by its words: the characters and the dots of a piece, or the small letter of a
-- capital. Which opcodes give characters dots is liblouis' ("Translation Opcodes" and
-- "Context-Dependent Opcodes" in its manual); that their lines give pieces is the project's own
-- choice.
use Rattle.std.specs.Prelude.{ℕ, zero, suc, ◌==◌, ◌-◌, ◌||◌, ◌&&◌, Bool, List, [], ◌∷◌, codes, if◌then◌else◌, is_some, map, slice_get, Option, Some, None}
use Rattle.std.specs.List.{list_any}
use Rattle.std.specs.Option.{option_and_then, option_map, unwrap_or}
use Rattle.std.specs.Str.{bytes_eq}
use Rattle.brl_lines.specs.Tokens.{LineView}
use Rattle.brl_table.specs.Opcodes.{entry_of, place_opcodes}

-- the words of a line, its opcode first
abbrev pub words_of : LineView → List (List ℕ)
words_of line = line.opcode.text ∷ map (λ token. token.text) line.operands

-- the word at a place; an empty one past the end
abbrev pub word_at : List (List ℕ) → ℕ → List ℕ
word_at words place = unwrap_or (slice_get words place) []

-- a word is one of these
abbrev pub is_one_of : List (List ℕ) → List ℕ → Bool
is_one_of words word = list_any (bytes_eq word) words

-- ---- Prefixes

-- the prefixes that are a word, and those that are two
abbrev pub prefixes : List (List ℕ)
prefixes = codes "noback" ∷ codes "nofor" ∷ codes "nocross" ∷ codes "empmatchbefore" ∷ codes "empmatchafter" ∷ []

abbrev pub prefixes_of_two : List (List ℕ)
prefixes_of_two = codes "before" ∷ codes "after" ∷ []

-- how many words a prefix takes that begins with this one: 0 where it begins none
abbrev pub prefix_length : List ℕ → ℕ
prefix_length word = if is_one_of prefixes word then 1 else if is_one_of prefixes_of_two word then 2 else 0

-- the words after the first ones, and after all prefixes that begin there
abbrev pub after_words : ℕ → List (List ℕ) → List (List ℕ)
after_words first [] = []
after_words (suc first) (word ∷ words) = after_words first words
after_words zero (word ∷ words) = if prefix_length word == 0 then word ∷ words else after_words (prefix_length word - 1) words

abbrev pub after_prefixes : List (List ℕ) → List (List ℕ)
after_prefixes words = after_words 0 words

-- ---- Pieces and rules

-- an opcode gives a rule for a place
abbrev pub is_place : List ℕ → Bool
is_place opcode = is_some (entry_of place_opcodes opcode)

-- the opcodes that aren't read, and give characters dots as a rule does
abbrev pub unread_rules : List (List ℕ)
unread_rules =
    codes "largesign" ∷ codes "lowword" ∷ codes "joinword" ∷ codes "joinnum" ∷ codes "prepunc" ∷ codes "postpunc" ∷ codes "syllable" ∷ []

-- both of two words, where there are both
abbrev pub both : Option (List ℕ) → Option (List ℕ) → Option (List ℕ × List ℕ)
both one other = option_and_then (λ (first : List ℕ). option_map (λ (second : List ℕ). (first, second)) other) one

-- the characters and the dots of a piece, of the words after the prefixes: after the opcode come
-- the characters and then the dots, or with `match` those between two patterns
abbrev pub words_of_piece : List (List ℕ) → Option (List ℕ × List ℕ)
words_of_piece words =
    if is_place (word_at words 0) || is_one_of unread_rules (word_at words 0) then both (slice_get words 1) (slice_get words 2)
    else if bytes_eq (word_at words 0) (codes "match") then both (slice_get words 2) (slice_get words 4)
    else None

-- words are those of a rule that is read and used: a place opcode comes first, or after `noback`
abbrev pub are_of_rule : List (List ℕ) → Bool
are_of_rule words = is_place (word_at words 0) || (bytes_eq (word_at words 0) (codes "noback") && is_place (word_at words 1))

-- the words of a capital and its small letter
abbrev pub capital_words : List (List ℕ) → Option (List ℕ × List ℕ)
capital_words words =
    if bytes_eq (word_at words 0) (codes "base") && bytes_eq (word_at words 1) (codes "uppercase") then both (slice_get words 2) (slice_get words 3)
    else None
