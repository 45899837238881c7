-- What one line of a table defines, read by itself. The manual has the form of a line in section
-- "Overview", and the opcodes in sections "Character-Definition Opcodes", "Translation Opcodes",
-- "Braille Indicator Opcodes" and "Miscellaneous Opcodes". From the manual, too: `=` means the
-- characters' own cells, and a comma separates the dots of two characters. The faults, their order
-- and the limit of a rule's characters are this project's own.
use Rattle.std.specs.Prelude.{ℕ, Bool, true, false, nat_eq, nat_lt, if◌then◌else◌, List, [], ◌∷◌, length, codes, Option, Some, None, Result, Ok, Err, bytes_eq}
use Rattle.std.specs.List.{list_any, before_first, after_first}
use Rattle.brl_cells.specs.Dots.{reading}
use Rattle.brl_failure.specs.Failure.{◌>>=◌}
use Rattle.brl_lines.specs.Escapes.{characters_of}
use Rattle.brl_lines.specs.Tokens.{LineView, TokenView}
use Rattle.brl_rules.specs.declared.class.Class.{Class}
use Rattle.brl_table.specs.declared.item.Item.{Item}
use Rattle.brl_table.specs.declared.item.Item.TheVariants.{Defines, DefinesBoth, Rules, Indicates, Lists, Nothing}
use Rattle.brl_table.specs.declared.item.Definition.{Definition}
use Rattle.brl_table.specs.declared.item.NumericRole.{NumericRole}
use Rattle.brl_table.specs.declared.item.RuleHead.{RuleHead}
use Rattle.brl_table.specs.declared.opcode.Opcode.{Opcode}
use Rattle.brl_table.specs.declared.opcode.Opcode.TheVariants.{Plain, Literary, Uplow, Placed, Noback, Nofor, Display, Indicator, NumericList, Include}
use Rattle.brl_rules.specs.declared.place.Place.{Place}
use Rattle.brl_rules.specs.declared.signs.Sign.{Sign}
use Rattle.brl_table.specs.declared.table_fault.TableFaultKind.{TableFaultKind}
use Rattle.brl_table.specs.declared.table_fault.TableFaultKind.TheVariants.{OutsideProfile, MissingOperand, BadCharacters, BadDots, TooMany}
use Rattle.brl_table.specs.Opcodes.{opcode_of}
use Rattle.brl_rules.specs.Places.{digit, lowercase_letter, uppercase_letter}

-- the fault of a line: its kind, and the word of the line that it is about
pub record Fault : Type 0 where
  pub kind : TableFaultKind
  pub subject : List ℕ

-- a fault of this kind about this word
abbrev pub fault : TableFaultKind → List ℕ → Fault
fault kind subject = record { kind = kind; subject = subject }

-- any fault of reading a word, as a fault of this kind about the word
abbrev pub or_fault : {A E : Type 0} → TableFaultKind → List ℕ → Result A E → Result A Fault
or_fault kind word (Ok x) = Ok x
or_fault kind word (Err other) = Err (fault kind word)

-- ---- Operands

-- the characters that an operand spells
abbrev pub characters_spelled : List ℕ → Result (List ℕ) Fault
characters_spelled word = or_fault BadCharacters word (characters_of word)

-- the character, if there is exactly one
abbrev pub the_one : List ℕ → List ℕ → Result ℕ Fault
the_one word (c ∷ []) = Ok c
the_one word others = Err (fault BadCharacters word)

-- the one character that an operand spells
abbrev pub character_of : List ℕ → Result ℕ Fault
character_of word = do
  characters ← characters_spelled word
  the_one word characters

-- the two characters, if there are exactly two different ones
abbrev pub the_two : List ℕ → List ℕ → Result (ℕ × ℕ) Fault
the_two word (c ∷ d ∷ []) = if nat_eq c d then Err (fault BadCharacters word) else Ok (c, d)
the_two word others = Err (fault BadCharacters word)

-- the two different characters that an operand spells
abbrev pub two_characters_of : List ℕ → Result (ℕ × ℕ) Fault
two_characters_of word = do
  characters ← characters_spelled word
  the_two word characters

-- the characters, if there is at least one
abbrev pub at_least_one : List ℕ → List ℕ → Result (List ℕ) Fault
at_least_one word [] = Err (fault BadCharacters word)
at_least_one word (c ∷ others) = Ok (c ∷ others)

-- the characters that an operand spells, at least one
abbrev pub some_characters_of : List ℕ → Result (List ℕ) Fault
some_characters_of word = do
  characters ← characters_spelled word
  at_least_one word characters

-- the cells that an operand spells, at most 16
abbrev pub cells_of : List ℕ → Result (List ℕ) Fault
cells_of word = or_fault BadDots word (reading 16 word)

-- a comma
abbrev pub is_comma : ℕ → Bool
is_comma byte = nat_eq byte 44

-- the two parts of an operand around its first comma; without a comma both are the whole operand
abbrev pub parts_of : List ℕ → List ℕ × List ℕ
parts_of word = if list_any is_comma word then (before_first is_comma word, after_first is_comma word) else (word, word)

-- the cells of two characters: the same dots for both, or two with a comma between them
abbrev pub cells_of_both : List ℕ → Result (List ℕ × List ℕ) Fault
cells_of_both word = do
  upper ← or_fault BadDots word (reading 16 (parts_of word).0)
  lower ← or_fault BadDots word (reading 16 (parts_of word).1)
  Ok (upper, lower)

-- the cells that an operand spells, as a rule's own cells
abbrev pub some_cells_of : List ℕ → Result (Option (List ℕ)) Fault
some_cells_of word = do
  cells ← cells_of word
  Ok (Some cells)

-- the cells of a rule, or none for `=`
abbrev pub rule_cells_of : List ℕ → Result (Option (List ℕ)) Fault
rule_cells_of word = if bytes_eq word (codes "=") then Ok None else some_cells_of word

-- the first operand of an opcode; what follows it is a comment
abbrev pub one_operand : List ℕ → List TokenView → Result (List ℕ) Fault
one_operand opcode [] = Err (fault MissingOperand opcode)
one_operand opcode (first ∷ comment) = Ok first.text

-- the first two operands of an opcode; what follows them is a comment
abbrev pub two_operands : List ℕ → List TokenView → Result (List ℕ × List ℕ) Fault
two_operands opcode (first ∷ second ∷ comment) = Ok (first.text, second.text)
two_operands opcode others = Err (fault MissingOperand opcode)

-- ---- Lines that define characters

-- a definition with these fields
abbrev pub definition : Class → Bool → ℕ → ℕ → ℕ → ℕ → List ℕ → Definition
definition classes literary file line fold c cells = record {
  character = c;
  literary = literary;
  classes = classes;
  cells = cells;
  fold = fold;
  file = file;
  line = line;
}

-- a line that defines one character, which is its own fold: the character, then its cells
abbrev pub defined : Class → Bool → ℕ → ℕ → List ℕ → List TokenView → Result Item Fault
defined classes literary file line opcode operands = do
  two ← two_operands opcode operands
  c ← character_of two.0
  cells ← cells_of two.1
  Ok (Defines (definition classes literary file line c c cells))

-- an `uplow` line defines an uppercase character and its lowercase one, which is the fold of both:
-- the two characters, then the cells of both
abbrev pub defined_both : ℕ → ℕ → List ℕ → List TokenView → Result Item Fault
defined_both file line opcode operands = do
  two ← two_operands opcode operands
  cs ← two_characters_of two.0
  cells ← cells_of_both two.1
  Ok (DefinesBoth (definition uppercase_letter false file line cs.1 cs.0 cells.0) (definition lowercase_letter false file line cs.1 cs.1 cells.1))

-- a `display` line: it is read as if it defined a character, and then not used
abbrev pub displayed : List ℕ → List TokenView → Result Item Fault
displayed opcode operands = do
  two ← two_operands opcode operands
  c ← character_of two.0
  cells ← cells_of two.1
  Ok Nothing

-- ---- Lines of indicators and lists

-- a line that gives an indicator its cells
abbrev pub indicated : Sign → List ℕ → List TokenView → Result Item Fault
indicated sign opcode operands = do
  dots ← one_operand opcode operands
  cells ← cells_of dots
  Ok (Indicates sign cells)

-- a line that gives its characters a role in numbers
abbrev pub listed : NumericRole → List ℕ → List TokenView → Result Item Fault
listed role opcode operands = do
  word ← one_operand opcode operands
  chars ← some_characters_of word
  Ok (Lists (record { role = role; chars = chars }))

-- ---- Lines of rules

-- the head of a rule with these fields
abbrev pub head : Bool → Bool → ℕ → ℕ → RuleHead
head used prefixed file line = record {
  used = used;
  prefixed = prefixed;
  file = file;
  line = line;
}

-- a rule with these fields, of at most 32 characters
abbrev pub rule : Place → RuleHead → List ℕ → List ℕ → Option (List ℕ) → Result Item Fault
rule place head opcode chars cells =
    if nat_lt 32 (length chars) then Err (fault TooMany opcode)
    else Ok (Rules (record { place = place; chars = chars; cells = cells; head = head }))

-- the line of a place opcode: characters, then cells or `=`
abbrev pub ruled : Place → RuleHead → List ℕ → List TokenView → Result Item Fault
ruled place head opcode operands = do
  two ← two_operands opcode operands
  chars ← some_characters_of two.0
  cells ← rule_cells_of two.1
  rule place head opcode chars cells

-- `noback` or `nofor` is followed by a place opcode with its operands
abbrev pub ruled_as : RuleHead → List ℕ → List TokenView → Option Opcode → Result Item Fault
ruled_as head opcode operands (Some (Placed place)) = ruled place head opcode operands
ruled_as head opcode operands other = Err (fault OutsideProfile opcode)

-- a line that begins with `noback` or `nofor`
abbrev pub ruled_after : RuleHead → List ℕ → List TokenView → Result Item Fault
ruled_after head prefix [] = Err (fault MissingOperand prefix)
ruled_after head prefix (next ∷ operands) = ruled_as head next.text operands (opcode_of next.text)

-- ---- Lines

-- an include line that is left after loading: one that names a file was replaced by its lines
abbrev pub left_include : List ℕ → List TokenView → Result Item Fault
left_include opcode [] = Err (fault MissingOperand opcode)
left_include opcode (name ∷ comment) = Err (fault OutsideProfile opcode)

-- the item of a line with this opcode
abbrev pub by_opcode : ℕ → ℕ → List ℕ → List TokenView → Option Opcode → Result Item Fault
by_opcode file line opcode operands None = Err (fault OutsideProfile opcode)
by_opcode file line opcode operands (Some (Plain classes)) = defined classes false file line opcode operands
by_opcode file line opcode operands (Some Literary) = defined digit true file line opcode operands
by_opcode file line opcode operands (Some Uplow) = defined_both file line opcode operands
by_opcode file line opcode operands (Some Display) = displayed opcode operands
by_opcode file line opcode operands (Some (Placed place)) = ruled place (head true false file line) opcode operands
by_opcode file line opcode operands (Some Noback) = ruled_after (head true true file line) opcode operands
by_opcode file line opcode operands (Some Nofor) = ruled_after (head false true file line) opcode operands
by_opcode file line opcode operands (Some (Indicator sign)) = indicated sign opcode operands
by_opcode file line opcode operands (Some (NumericList role)) = listed role opcode operands
by_opcode file line opcode operands (Some Include) = left_include opcode operands

-- the item of a line of the file with this number, or the line's first fault
abbrev pub item_of : ℕ → LineView → Result Item Fault
item_of file line = by_opcode file line.line line.opcode.text line.operands (opcode_of line.opcode.text)
