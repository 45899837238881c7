-- What is put before a line that is rewritten: a line that is read, in its place, and the mark of a
-- comment. The project's own choice.
use Rattle.std.specs.Prelude.{ℕ, Bool, ◌&&◌, ◌==◌, nat_le, if◌then◌else◌, List, [], ◌∷◌, ◌++◌, codes, flat_map, length}
use Rattle.brl_lines.specs.Tokens.{LineView, TokenView}
use Rattle.brl_table.specs.Survey.{has_characters, survey_of}
use Rattle.brl_cut.specs.Edits.{EditView}

-- ---- A line in the place of another

-- a word that is in no file
abbrev pub new_word : List ℕ → TokenView
new_word text = record { text = text; start = 0 }

-- a line of an opcode and two operands, in the place of another line
abbrev pub line_in_place : LineView → TokenView → TokenView → TokenView → LineView
line_in_place line opcode first second = record { file = line.file; line = line.line; opcode = opcode; operands = first ∷ second ∷ [] }

-- a line of three words that are in no file, in the place of another line
abbrev pub words_in_place : LineView → List ℕ → List ℕ → List ℕ → LineView
words_in_place line opcode first second = line_in_place line (new_word opcode) (new_word first) (new_word second)

-- ---- Edits

-- the words of a line, with a blank between two of them
abbrev pub line_text : LineView → List ℕ
line_text line = line.opcode.text ++ flat_map (λ operand. codes " " ++ operand.text) line.operands

-- the edit that puts a line before the one in its place, which becomes a comment
abbrev pub edit_to : LineView → EditView
edit_to new = record { file = new.file; line = new.line; prefix = line_text new ++ codes " # " }

-- whether a line by itself defines a character, and has no fault
abbrev pub is_definition : LineView → Bool
is_definition line = has_characters (line ∷ []) && (length (survey_of (line ∷ [])).faulty == 0)

-- whether a line may be put before another: it is a definition, and the prefix isn't too long
abbrev pub may_be_put : LineView → Bool
may_be_put new = is_definition new && nat_le (length (edit_to new).prefix) 1024

-- the edit that puts a line before the one in its place, where it may be put
abbrev pub edit_if_put : LineView → List EditView
edit_if_put new = if may_be_put new then edit_to new ∷ [] else []
