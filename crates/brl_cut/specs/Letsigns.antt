-- Lines that begin with `letsign`. The manual has it in section "Braille Indicator Opcodes".
-- Liblouis writes this sign before a letter that is alone, whatever rule it uses there, as tests
-- found. A rewritten table has it in rules: a `word` rule for each letter before which the sign may
-- stand, in a file that is made and that the last such line includes; and in the rules that begin
-- with such a letter and a character that is no letter. The project's own choice.
use Rattle.std.specs.Prelude.{ℕ, Bool, false, ◌&&◌, ◌||◌, nat_eq, not, if◌then◌else◌, List, [], ◌∷◌, ◌++◌, codes, find, flat_map, option_map, Option, Some, None, Result, Ok, Err}
use Rattle.std.specs.List.{list_any}
use Rattle.std.specs.Option.{option_and_then, option_map_or}
use Rattle.std.specs.Str.{bytes_eq, encode_utf8_all}
use Rattle.brl_acting.specs.Letters.{Letters, letters_of}
use Rattle.brl_acting.specs.Sets.{is_one_of}
use Rattle.brl_cells.specs.Dots.{reading, spelling}
use Rattle.brl_cells.specs.declared.fault.DotsFault.{DotsFault}
use Rattle.brl_lines.specs.Escapes.{characters_of}
use Rattle.brl_lines.specs.Includes.{folder_of}
use Rattle.brl_lines.specs.Spelling.{text_spelling}
use Rattle.brl_lines.specs.Tokens.{LineView, TokenView}
use Rattle.brl_lines.specs.declared.operand.CharsFault.{CharsFault}
use Rattle.brl_rules.specs.declared.rule.Info.{Info}
use Rattle.brl_table.specs.Survey.{good_characters}
use Rattle.brl_cut.specs.Contractions.{contraction_cells, sign_cells}
use Rattle.brl_cut.specs.Edits.{EditView, Texts}
use Rattle.brl_cut.specs.Putting.{edit_to, words_in_place}
use Rattle.brl_cut.specs.Signs.{SignView}

-- ---- Rules

-- the characters and the cells of a rule
pub record RuleView : Type 0 where
  pub chars : List ℕ
  pub cells : List ℕ

-- the cells that a word gives these characters, where it has no fault; `=` gives them their own
abbrev pub cells_if : Result (List ℕ) DotsFault → Option (List ℕ)
cells_if (Ok cells) = Some cells
cells_if (Err fault) = None

abbrev pub cells_by_word : List (ℕ × Info) → List ℕ → List ℕ → Option (List ℕ)
cells_by_word characters chars word = if bytes_eq word (codes "=") then Some (contraction_cells characters [] chars) else cells_if (reading 16 word)

abbrev pub chars_if : Result (List ℕ) CharsFault → Option (List ℕ)
chars_if (Ok chars) = Some chars
chars_if (Err fault) = None

-- the rule of these characters, by the word for its cells
abbrev pub rule_of_chars : List (ℕ × Info) → List ℕ → List ℕ → Option RuleView
rule_of_chars characters word chars = option_map (λ cells. record { chars = chars; cells = cells }) (cells_by_word characters chars word)

-- the rule that words spell: its characters, and its cells
abbrev pub rule_of : List (ℕ × Info) → List TokenView → Option RuleView
rule_of characters (first ∷ dots ∷ comment) = option_and_then (rule_of_chars characters dots.text) (chars_if (characters_of first.text))
rule_of characters others = None

-- ---- What is known of lines

-- the characters that they define, their letters, and the cells before those of a contraction and
-- before those of a letter
pub record Known : Type 0 where
  pub characters : List (ℕ × Info)
  pub letters : Letters
  pub contraction : List ℕ
  pub sign : List ℕ

abbrev pub known_of : List LineView → SignView → Known
known_of lines sign = record { characters = good_characters lines; letters = letters_of lines; contraction = sign_cells lines; sign = sign.cells }

-- ---- The rules of the file that is made

-- a letter alone with these cells, where it is the only one of these characters
abbrev pub alone_of : List ℕ → List ℕ → List (ℕ × List ℕ)
alone_of (c ∷ []) cells = (c, cells) ∷ []
alone_of others cells = []

-- by a rule: after the sign
abbrev pub alone_by_rule : List ℕ → Option RuleView → List (ℕ × List ℕ)
alone_by_rule sign (Some rule) = alone_of rule.chars (sign ++ rule.cells)
alone_by_rule sign None = []

-- by the characters of a contraction, which has signs of its own
abbrev pub alone_by_chars : Known → Option (List ℕ) → List (ℕ × List ℕ)
alone_by_chars known (Some chars) = alone_of chars (contraction_cells known.characters known.contraction chars)
alone_by_chars known None = []

abbrev pub alone_by_contraction : Known → List TokenView → List (ℕ × List ℕ)
alone_by_contraction known [] = []
alone_by_contraction known (first ∷ comment) = alone_by_chars known (chars_if (characters_of first.text))

-- the opcodes of rules that are used for a letter alone; liblouis uses the earliest one
abbrev pub is_for_letters : List ℕ → Bool
is_for_letters word = is_one_of (codes "always" ∷ codes "sufword" ∷ codes "prfword" ∷ []) word

-- the letter alone that a line has a rule for, with its cells
abbrev pub alone_in : Known → LineView → List (ℕ × List ℕ)
alone_in known line =
    if is_for_letters line.opcode.text then alone_by_rule known.sign (rule_of known.characters line.operands)
    else if bytes_eq line.opcode.text (codes "contraction") then alone_by_contraction known line.operands
    else []

abbrev pub all_alone : Known → List LineView → List (ℕ × List ℕ)
all_alone known lines = flat_map (alone_in known) lines

-- the cells of a letter alone: by the first rule for it, and else its own after the sign
abbrev pub cells_alone : Known → List (ℕ × List ℕ) → ℕ → List ℕ
cells_alone known alone c = option_map_or (λ entry. entry.1) (find (λ entry. nat_eq entry.0 c) alone) (contraction_cells known.characters known.sign (c ∷ []))

-- the `word` line of a letter, with its end
abbrev pub made_line : List ℕ → ℕ → List ℕ
made_line cells c = codes "word " ++ (encode_utf8_all (text_spelling (c ∷ [])) ++ (codes " " ++ (spelling cells ++ codes "\n")))

abbrev pub made_line_if : Known → List (ℕ × List ℕ) → ℕ × Info → List ℕ
made_line_if known alone entry = if known.letters.takes_sign entry.0 then made_line (cells_alone known alone entry.0) entry.0 else []

-- the lines of all letters before which the sign may stand, in the order in which they are defined
abbrev pub made_text : Known → List LineView → List ℕ
made_text known lines = flat_map (made_line_if known (all_alone known lines)) known.characters

-- ---- The file that is made

abbrev pub made_name : List ℕ
made_name = codes "letsign-made.cti"

-- its path: beside the root, where this was found
abbrev pub made_path : List ℕ → List ℕ
made_path root = folder_of root ++ made_name

abbrev pub made_file : List ℕ → Known → List LineView → List ℕ × List ℕ
made_file root known lines = (made_path root, made_text known lines)

-- one of these files has the name or the path
abbrev pub is_taken : List (List ℕ) → List ℕ → Texts → Bool
is_taken names root files = is_one_of names made_name || list_any (λ file. bytes_eq (made_path root) file.0) files

-- ---- Edits

-- the line that gives the sign includes the file
abbrev pub include_edit : SignView → EditView
include_edit sign = record { file = sign.file; line = sign.line; prefix = codes "include letsign-made.cti # " }

-- a letter before which the sign may stand, and a character that is no letter
abbrev pub begins_alone : Letters → List ℕ → Bool
begins_alone letters (c ∷ d ∷ others) = letters.takes_sign c && not (letters.is_letter d)
begins_alone letters others = false

-- the edit of a line with a rule, whose first word is this: the same rule with the sign
abbrev pub edit_to_sign : LineView → List ℕ → List ℕ → List EditView
edit_to_sign line word cells = edit_to (words_in_place line line.opcode.text word (spelling cells)) ∷ []

abbrev pub edit_of_rule : Known → LineView → List ℕ → Option RuleView → List EditView
edit_of_rule known line word (Some rule) = if begins_alone known.letters rule.chars then edit_to_sign line word (known.sign ++ rule.cells) else []
edit_of_rule known line word None = []

abbrev pub edit_of_operands : Known → LineView → List TokenView → List EditView
edit_of_operands known line [] = []
edit_of_operands known line (first ∷ others) = edit_of_rule known line first.text (rule_of known.characters (first ∷ others))

-- the opcodes of rules that begin where a letter may stand alone
abbrev pub may_begin_alone : List ℕ → Bool
may_begin_alone word = is_one_of (codes "word" ∷ codes "sufword" ∷ codes "begword" ∷ []) word

abbrev pub sign_edit : Known → LineView → List EditView
sign_edit known line = if may_begin_alone line.opcode.text then edit_of_operands known line line.operands else []

-- the edits of lines with rules that get the sign
abbrev pub sign_edits : Known → List LineView → List EditView
sign_edits known lines = flat_map (sign_edit known) lines
