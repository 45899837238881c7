-- What can be seen in the file that a fault's line names. The project's own choice.
use Rattle.std.specs.Prelude.{ℕ, ◌≡◌, ◌+◌, ◌==◌, Bool, ◌&&◌, if◌then◌else◌, List, [], ◌++◌, ◌⊎◌, MatchBool, Option, Some, None, codes, count_by, flat_map, length, nat_eq, option_map, slice_index, take, decimal, bytes_eq, chars}
use Rattle.std.specs.List.{after_first, before_first, find, starts_with}
use Rattle.std.specs.Option.{option_and_then, option_map_or}
use Rattle.std.specs.Str.Lossy.{utf8_valid_len}
use Rattle.brl_explain.specs.Details.{byte_digits, operand_of, titled, unclear_spelling}
use Rattle.brl_explain.specs.Explaining.{code_of, is_blank}
use Rattle.brl_explain.specs.Operands.{is_prefix, missing_line, swapped_line, undefined_line}
use Rattle.brl_explain.specs.declared.in_file.Place.{Place}
use Rattle.brl_lines.specs.Answer.{FileAnswer, FileAnswers, Holds, MayAnswer}
use Rattle.brl_lines.specs.Lines.{LocationView, Refusal}
use Rattle.brl_lines.specs.Numbers.{lenient_number}
use Rattle.brl_lines.specs.Outcome.{AreLinesOf, IsRefusedAs}
use Rattle.brl_lines.specs.Tokens.{LineView}
use Rattle.brl_report.specs.Rules.{gives_sign, is_at, source_line, words_of}
use Rattle.brl_table.specs.Opcodes.{opcode_of}
use Rattle.brl_table.specs.Words.{sign_given}

-- ---- The place of a fault

-- a colon, which parts a file's path from the number of a line
abbrev pub is_colon : ℕ → Bool
is_colon byte = nat_eq byte 58

-- the words after the third one of a line: `at FILE:LINE` where that is the fault of a table's line
abbrev pub after_operand : List ℕ → List ℕ
after_operand line = after_first is_blank (after_first is_blank (after_first is_blank line))

-- a place
abbrev pub place_view : Place → LocationView
place_view place = record { file = place.file.now; line = place.line }

-- the place that is spelled FILE:LINE
abbrev pub place_in : List ℕ → Option LocationView
place_in spelled = option_map (λ number. record { file = before_first is_colon spelled; line = number }) (lenient_number 10 4294967295 (after_first is_colon spelled))

-- the place of a table's line that has a fault, if the fault's line names one
abbrev pub place_of : List ℕ → Option LocationView
place_of line =
    if starts_with nat_eq (code_of line) (codes "B") && bytes_eq (before_first is_blank (after_operand line)) (codes "at")
    then place_in (after_first is_blank (after_operand line)) else None

-- ---- A line of a table

-- the prefix with which a line begins, by its first word, where its fault is that its opcode isn't
-- read
abbrev pub prefix_line : List ℕ → List ℕ → List ℕ
prefix_line fault word = if bytes_eq (code_of fault) (codes "B1") && is_prefix word then codes "Prefix: " ++ word ++ codes "\n" else []

-- the unclear characters of a line, in order, by their numbers
abbrev pub unclear_line : LineView → List ℕ
unclear_line line = titled (codes "Characters of the line:") (flat_map unclear_spelling (chars (words_of line)))

-- what is seen of the words of a line that has a fault: its prefix, and its operands
abbrev pub words_line : List ℕ → LineView → List ℕ
words_line fault line = prefix_line fault line.opcode.text ++ swapped_line fault line ++ missing_line fault line

-- a line that has a fault: as it is in its file, what is seen of its words, and its unclear
-- characters
abbrev pub faulty_line : List ℕ → LineView → List ℕ
faulty_line fault line = codes "Line:\n" ++ source_line line ++ words_line fault line ++ unclear_line line

-- ---- The line that defined an indicator first

-- a line, unless it is the one at the place
abbrev pub earlier_line : LocationView → LineView → List ℕ
earlier_line place line = if is_at place.file place.line line then [] else codes "First:\n" ++ source_line line

-- the first line that defines the indicator of a line whose fault is that it is another
abbrev pub first_definition : List ℕ → LocationView → List LineView → List ℕ
first_definition fault place lines =
    if bytes_eq (code_of fault) (codes "B9")
    then option_map_or (earlier_line place) (option_and_then (λ sign. find (gives_sign sign) lines) (sign_given (opcode_of (operand_of fault)))) [] else []

-- a line that has a fault, of a file with these lines, and which characters they don't define
abbrev pub line_with : List ℕ → List LineView → LineView → List ℕ
line_with fault lines line = faulty_line fault line ++ undefined_line fault line.file lines

-- what is seen of a fault at a place among the lines of a table
abbrev pub line_notes : List ℕ → LocationView → List LineView → List ℕ
line_notes fault place lines = option_map_or (line_with fault lines) (find (is_at place.file place.line) lines) [] ++ first_definition fault place lines

-- ---- A byte that isn't UTF-8

-- a line feed
abbrev pub is_feed : ℕ → Bool
is_feed byte = nat_eq byte 10

-- the byte of a file after this number of others, in hexadecimal digits, and its place
abbrev pub byte_at : List ℕ → List ℕ → ℕ → List ℕ
byte_at path bytes before =
    codes "Byte: " ++ byte_digits (slice_index bytes before) ++ codes " at " ++ path ++ codes ":" ++ decimal (count_by is_feed (take before bytes) + 1) ++ codes "\n"

-- the first byte of a file that isn't UTF-8, if one isn't
abbrev pub byte_note : List ℕ → List ℕ → List ℕ
byte_note path bytes = let valid = utf8_valid_len bytes in if valid == length bytes then [] else byte_at path bytes valid

-- what is seen in a file, for what was answered for its path
abbrev pub answer_note : List ℕ → FileAnswer → List ℕ
answer_note path (Holds bytes) = byte_note path bytes
answer_note path answer = []

-- ---- All that is seen

-- the lines of the table at a path; none where they can't be loaded
abbrev pub AreLinesIfLoaded : FileAnswers → List ℕ → List LineView → Type 0
AreLinesIfLoaded gives path lines = AreLinesOf gives path lines ⊎ ((lines ≡ []) × ((why : Refusal) × IsRefusedAs gives path why))

-- notes on the table's line that has a fault, at its place if it has one
abbrev pub AreNotesAt : FileAnswers → List ℕ → Option LocationView → List ℕ → Type 0
AreNotesAt gives fault None notes = notes ≡ []
AreNotesAt gives fault (Some place) notes = (lines : List LineView) × AreLinesIfLoaded gives place.file lines × (notes ≡ line_notes fault place lines)

-- notes on a file whose bytes aren't all UTF-8, by its path
abbrev pub AreByteNotes : FileAnswers → List ℕ → List ℕ → Type 0
AreByteNotes gives path notes = (answer : FileAnswer) × MayAnswer gives path answer × (notes ≡ answer_note path answer)

-- notes on the file that a fault's line names
abbrev pub AreNotes : FileAnswers → List ℕ → List ℕ → Type 0
AreNotes gives fault notes = MatchBool (bytes_eq (code_of fault) (codes "L3")) (AreByteNotes gives (operand_of fault) notes) (AreNotesAt gives fault (place_of fault) notes)
