-- The list of a table's rules, by the numbers that traces and refusals give them. The project's own
-- choice.
use Rattle.std.specs.Prelude.{ℕ, Bool, false, ◌&&◌, ◌==◌, ◌+◌, ◌-◌, if◌then◌else◌, List, [], ◌∷◌, ◌++◌, Option, codes, flat_map, length, map, nat_le, option_map, slice_get, decimal, bytes_eq, encode_utf8_all}
use Rattle.std.specs.Borrow.{Bor}
use Rattle.std.specs.List.{find, list_any, range_with_len}
use Rattle.std.specs.Option.{option_and_then, option_map_or, option_or}
use Rattle.brl_cells.specs.Dots.{spelling}
use Rattle.brl_lines.specs.Tokens.{LineView}
use Rattle.brl_lines.specs.Views.{line_view}
use Rattle.brl_lines.specs.Visible.{visible_text}
use Rattle.brl_lines.specs.declared.line.Line.{Line}
use Rattle.brl_report.specs.Place.{file_name, place_text}
use Rattle.brl_report.specs.declared.rules.Listed.{Listed}
use Rattle.brl_report.specs.declared.rules.RuleForm.{RuleForm}
use Rattle.brl_report.specs.declared.rules.Wanted.{Wanted}
use Rattle.brl_report.specs.declared.rules.Wanted.TheVariants.{At, Giving}
use Rattle.brl_report.specs.declared.rules.RuleForm.TheVariants as form
use Rattle.brl_rules.specs.Signs.{is_same_sign}
use Rattle.brl_rules.specs.TableView.{TableView, info_of}
use Rattle.brl_rules.specs.declared.rule.Info.{Info}
use Rattle.brl_rules.specs.declared.rule.Rule.{Rule}
use Rattle.brl_rules.specs.declared.signs.Sign.{Sign}
use Rattle.brl_table.specs.Opcodes.{opcode_of}
use Rattle.brl_table.specs.Words.{opcode_words, sign_given}

-- ---- The opcode of a line

-- a line that is borrowed
abbrev pub borrowed_line_view : Bor Line → LineView
borrowed_line_view line = line_view line.now

-- whether a line is at this place
abbrev pub is_at : List ℕ → ℕ → LineView → Bool
is_at file number line = (line.line == number) && bytes_eq line.file file

-- the opcode by which a line defines a rule or a character: its first word, and after `noback` the
-- next
abbrev pub defining_opcode : LineView → List ℕ
defining_opcode line =
    if bytes_eq line.opcode.text (codes "noback") then option_map_or (λ token. token.text) (slice_get line.operands 0) [] else line.opcode.text

-- the opcode of the first of these lines at a place
abbrev pub opcode_at : List ℕ → ℕ → List LineView → List ℕ
opcode_at file number lines = option_map_or defining_opcode (find (is_at file number) lines) []

-- ---- A line that is looked for

-- whether a line gives an indicator its cells
abbrev pub gives_sign : Sign → LineView → Bool
gives_sign sign line = option_map_or (is_same_sign sign) (sign_given (opcode_of line.opcode.text)) false

-- whether a line is the one that is looked for
abbrev pub is_wanted : Wanted → LineView → Bool
is_wanted (At file number) = is_at file.now number
is_wanted (Giving sign) = gives_sign sign

-- ---- A line as it is in its file

-- the words of a line, with a blank between two
abbrev pub words_of : LineView → List ℕ
words_of line = line.opcode.text ++ flat_map (λ word. codes " " ++ word.text) line.operands

-- a line by which a rule or an indicator is defined: its file and number, and its words
abbrev pub source_line : LineView → List ℕ
source_line line = codes "    " ++ line.file ++ codes ":" ++ decimal line.line ++ codes ": " ++ words_of line ++ codes "\n"

-- the first of these lines that is so, if one is
abbrev pub first_source : (LineView → Bool) → List LineView → List ℕ
first_source is_so lines = option_map_or source_line (find is_so lines) []

-- ---- The rules by their numbers

-- a rule as it is listed: its characters, its cells, and the place of its line; of a character's
-- own definition, of the line that gave it its cells
pub record ListedView : Type 0 where
  pub characters : List ℕ
  pub cells : List ℕ
  pub file : ℕ
  pub line : ℕ

-- a listed rule, as the code has it
abbrev pub listed_view : Listed → ListedView
listed_view x = record { characters = x.characters.now; cells = x.cells.now; file = x.file; line = x.line }

-- a rule
abbrev pub of_rule : Rule → ListedView
of_rule r = record { characters = r.chars; cells = r.cells; file = r.file; line = r.line }

-- the own definition of a character with this info
abbrev pub of_character : ℕ → Info → ListedView
of_character c info = record { characters = c ∷ []; cells = info.cells; file = info.file; line = info.line }

-- the own definition of the character with this number, in the order of first definitions
abbrev pub own_definition : TableView → ℕ → Option ListedView
own_definition t place =
    option_and_then (λ c. option_map (of_character c) (info_of t c)) (slice_get (map (λ entry. entry.0) t.characters) place)

-- the rule with a number: a rule in rank or, after these, the own definition of a character
abbrev pub rule_with_number : TableView → ℕ → Option ListedView
rule_with_number t number = option_or (option_map of_rule (slice_get t.rules number)) (own_definition t (number - length t.rules))

-- how many numbers there are
abbrev pub rule_count : TableView → ℕ
rule_count t = length t.rules + length t.characters

-- all numbers
abbrev pub rule_numbers : TableView → List ℕ
rule_numbers t = range_with_len 0 (rule_count t)

-- the number of a character's own definition
abbrev pub own_number : TableView → ℕ → ℕ
own_number t c = length t.rules + option_map_or (λ info. info.number) (info_of t c) 0

-- the first of these numbers that no rule has
abbrev pub first_unknown : TableView → List ℕ → Option ℕ
first_unknown t numbers = find (λ number. nat_le (rule_count t) number) numbers

-- ---- Their lines

-- an entry after two blanks
abbrev pub after_blanks : List ℕ → List ℕ
after_blanks entry = codes "  " ++ entry

-- the number of a rule, and the opcode of its line among these
abbrev pub number_and_opcode : TableView → List LineView → ℕ → ListedView → List ℕ
number_and_opcode t lines number x = decimal number ++ after_blanks (opcode_at (file_name t x.file) x.line lines)

-- the entry of a rule with a number: the number and the opcode, its characters as they are spelled,
-- its cells in dots, and the file and line
abbrev pub listed_entry : TableView → List LineView → ℕ → ListedView → List ℕ
listed_entry t lines number x =
    number_and_opcode t lines number x ++ after_blanks (encode_utf8_all (visible_text x.characters)) ++ after_blanks (spelling x.cells)
    ++ after_blanks (place_text t x.file x.line)

-- the line of a rule with a number: its entry alone
abbrev pub listed_line : TableView → List LineView → ℕ → ListedView → List ℕ
listed_line t lines number x = listed_entry t lines number x ++ codes "\n"

-- a rule within a line: the file and line, the opcode, and its characters as they are spelled
abbrev pub noted_rule : TableView → List LineView → ListedView → List ℕ
noted_rule t lines x =
    after_blanks (place_text t x.file x.line) ++ codes " " ++ opcode_at (file_name t x.file) x.line lines ++ codes " "
    ++ encode_utf8_all (visible_text x.characters)

-- a word that is an opcode of the profile, and `rule` for any other; a line that defines a rule
-- begins with one, or has it after `noback`
abbrev pub known_opcode : List ℕ → List ℕ
known_opcode word = if list_any (bytes_eq word) opcode_words then word else codes "rule"

-- what a rule says: the opcode, its characters as they are spelled, and its cells, with a blank
-- between two of these
abbrev pub said_rule : TableView → List LineView → ListedView → List ℕ
said_rule t lines x =
    known_opcode (opcode_at (file_name t x.file) x.line lines)
    ++ (codes " " ++ (encode_utf8_all (visible_text x.characters) ++ (codes " " ++ spelling x.cells)))

-- a rule with a number in a form
abbrev pub listed_text : RuleForm → TableView → List LineView → ℕ → ListedView → List ℕ
listed_text form.Line t lines number x = listed_line t lines number x
listed_text form.Entry t lines number x = listed_entry t lines number x
listed_text form.Note t lines number x = noted_rule t lines x
listed_text form.Source t lines number x = first_source (is_at (file_name t x.file) x.line) lines
listed_text form.Words t lines number x = said_rule t lines x

-- the rule with a number in a form, if there is one
abbrev pub rule_text : RuleForm → TableView → List LineView → ℕ → List ℕ
rule_text written t lines number = option_map_or (listed_text written t lines number) (rule_with_number t number) []

-- the line of the rule with a number, if there is one
abbrev pub rule_line : TableView → List LineView → ℕ → List ℕ
rule_line t lines number = rule_text form.Line t lines number

-- the entry of the rule with a number, if there is one
abbrev pub rule_entry : TableView → List LineView → ℕ → List ℕ
rule_entry t lines number = rule_text form.Entry t lines number

-- the rule with a number within a line, if there is one
abbrev pub rule_note : TableView → List LineView → ℕ → List ℕ
rule_note t lines number = rule_text form.Note t lines number

-- the lines of the rules with these numbers
abbrev pub rules_text : TableView → List LineView → List ℕ → List ℕ
rules_text t lines numbers = flat_map (rule_line t lines) numbers

-- what the rule with a number says; nothing where none has it
abbrev pub rule_words : TableView → List LineView → ℕ → List ℕ
rule_words t lines number = rule_text form.Words t lines number
