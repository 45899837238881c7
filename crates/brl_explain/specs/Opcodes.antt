-- Notes on words that are no opcodes where they are. The project's own choice.
use Rattle.std.specs.Prelude.{ℕ, Bool, if◌then◌else◌, List, [], ◌∷◌, ◌++◌, codes, length, nat_le, nat_lt, Option, None, Some, unwrap_or, bytes_eq, chars}
use Rattle.std.specs.List.{find, list_any}
use Rattle.strsim.specs.Edits.{osa_table}
use Rattle.brl_table.specs.Words.{opcode_words}

-- how many edits lead from one word to another: a character is added, left out or replaced by
-- another, or changes places with its neighbour
abbrev pub edits_between : List ℕ → List ℕ → ℕ
edits_between from to = (osa_table (chars from) (chars to)).last_row (length (chars to))

-- the first of these words from which at most this number of edits leads to another; empty where
-- none does
abbrev pub word_within : ℕ → List ℕ → List (List ℕ) → List ℕ
word_within most word words = unwrap_or (find (λ own. nat_le (edits_between own word) most) words) []

-- the first of two words, unless it is empty
abbrev pub or_word : List ℕ → List ℕ → List ℕ
or_word [] other = other
or_word (byte ∷ bytes) other = byte ∷ bytes

-- the opcode that a word may be meant for: one that is an edit away or, for words of more than four
-- bytes, two; empty where none is
abbrev pub nearest_opcode : List ℕ → List ℕ
nearest_opcode word = or_word (word_within 1 word opcode_words) (if nat_lt 4 (length word) then word_within 2 word opcode_words else [])

-- the question whether an opcode is meant; empty where there is none
abbrev pub question_of : List ℕ → List ℕ
question_of [] = []
question_of (byte ∷ bytes) = codes "did you mean " ++ (byte ∷ bytes) ++ codes "?"

-- whether a word is an opcode
abbrev pub is_opcode : List ℕ → Bool
is_opcode word = list_any (λ opcode. bytes_eq opcode word) opcode_words

-- how a cut rewrites the lines of an opcode, if it does
abbrev pub rewriting_note : List ℕ → Option (List ℕ)
rewriting_note word =
    if bytes_eq word (codes "base") then Some (codes "brl cut --rewrite reads base uppercase, as uplow")
    else if bytes_eq word (codes "contraction") then Some (codes "brl cut --rewrite reads contraction, as word")
    else if bytes_eq word (codes "letsign") then Some (codes "brl cut --rewrite reads the last letsign, as a word line for each letter")
    else None

-- the note on a word that is no opcode where it is
abbrev pub opcode_note : List ℕ → List ℕ
opcode_note word =
    if is_opcode word then word ++ codes " is read, but not after noback or nofor"
    else unwrap_or (rewriting_note word) (question_of (nearest_opcode word))
