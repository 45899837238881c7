-- The lines of a table that have a fault by themselves. A line with a fault defines nothing, so
-- each line is read after the good lines before it. What one line can't show, as a character of a
-- rule that no line defines, is looked for where no line has a fault by itself. The project's own
-- choice.
use Rattle.std.specs.Prelude.{ℕ, ◌≡◌, ◌≢◌, Bool, true, false, if◌then◌else◌, List, [], ◌∷◌, ◌++◌, ◌==◌, flat_map, fold, length, map, nat_lt, take, slice_get, string_bytes, codes, is_some, option_map, Option, Some, None}
use Rattle.std.specs.List.{enumerate_from}
use Rattle.std.specs.Option.{option_map_or}
use Rattle.brl_failure.specs.Failure.{IfFault}
use Rattle.brl_failure.specs.declared.failure.Failure.{Failure}
use Rattle.brl_failure.specs.declared.failure.Failure.TheVariants as failures
use Rattle.brl_lines.specs.Tokens.{LineView}
use Rattle.brl_table.specs.FaultText.{LocatedFault, located_fault}
use Rattle.brl_table.specs.Items.{Fault}
use Rattle.brl_table.specs.Opcodes.{opcode_of}
use Rattle.brl_table.specs.Faults.{fault_after, second_pass_fault}
use Rattle.brl_table.specs.Reading.{defined_characters, defined_entries, definitions, files_of, item_in, ok_of}
use Rattle.brl_table.specs.declared.item.Item.{Item}
use Rattle.brl_table.specs.declared.opcode.Opcode.{Opcode}
use Rattle.brl_table.specs.declared.opcode.Opcode.TheVariants.{Noback, Nofor}
use Rattle.brl_table.specs.declared.faulty.FaultyLine.{FaultyLine}
use Rattle.brl_table.specs.declared.faulty.Findings.{Findings}
use Rattle.brl_rules.specs.declared.rule.Info.{Info}

-- ---- The fault of each line

-- the items of the good lines, and that of one more line if it has no fault after them
abbrev pub with_line : List (List ℕ) → List Item → LineView → List Item
with_line files good line = if is_some (fault_after good line (item_in files line)) then good else good ++ ok_of (item_in files line)

-- the items of the good lines: those that have no fault after the good lines before them
abbrev pub good_items : List (List ℕ) → List LineView → List Item
good_items files lines = fold (with_line files) [] lines

-- the fault of the line at a place, after the good lines before it
abbrev pub line_fault : List LineView → ℕ → LineView → Option Fault
line_fault lines place line =
    let files = files_of lines in
    fault_after (good_items files (take place lines)) line (item_in files line)

-- ---- The lines with a fault

-- whether an opcode comes before a place opcode
abbrev pub is_prefix : Option Opcode → Bool
is_prefix (Some Noback) = true
is_prefix (Some Nofor) = true
is_prefix other = false

-- what follows `noback` or `nofor` in a line that begins with one of them, if anything does
abbrev pub prefixed_word : LineView → Option (List ℕ)
prefixed_word line = if is_prefix (opcode_of line.opcode.text) then option_map (λ token. token.text) (slice_get line.operands 0) else None

-- the opcode of a line: its first word, and after a prefix and a blank what follows that
abbrev pub named_opcode : LineView → List ℕ
named_opcode line = line.opcode.text ++ option_map_or (λ word. codes " " ++ word) (prefixed_word line) []

-- a line with a fault: its opcode, and the fault
pub record FaultyLineView : Type 0 where
  pub opcode : List ℕ
  pub fault : LocatedFault

-- a line with a fault, as the code has it
abbrev pub faulty_line_view : FaultyLine → FaultyLineView
faulty_line_view faulty = record { opcode = string_bytes faulty.opcode; fault = located_fault faulty.fault }

-- a line with this fault
abbrev pub faulty_line : LineView → Fault → FaultyLineView
faulty_line line wrong = record { opcode = named_opcode line; fault = record { fault = wrong; file = line.file; line = line.line } }

-- a line with its fault, as a list; empty for a line without a fault
abbrev pub faulty_line_if : LineView → Option Fault → List FaultyLineView
faulty_line_if line None = []
faulty_line_if line (Some wrong) = faulty_line line wrong ∷ []

-- the lines at whose places there is a fault, in order, each with its fault
abbrev pub lines_with : (ℕ → LineView → Option Fault) → List LineView → List FaultyLineView
lines_with fault_at lines = flat_map (λ entry. faulty_line_if entry.1 (fault_at entry.0 entry.1)) (enumerate_from 0 lines)

-- the lines that have a fault by themselves
abbrev pub faulty_lines : List LineView → List FaultyLineView
faulty_lines lines = lines_with (line_fault lines) lines

-- the lines that have a fault of the second pass
abbrev pub unresolved_lines : List LineView → List FaultyLineView
unresolved_lines lines = lines_with (second_pass_fault lines) lines

-- the line was found with this fault
abbrev pub IsFaultyAs : LineView → Failure Fault → FaultyLine → Type 0
IsFaultyAs line failure faulty = IfFault (λ wrong. faulty_line_view faulty ≡ faulty_line line wrong) failure × (failure ≢ failures.Memory)

-- ---- The survey

-- what a survey finds: the faulty lines, whether the first pass finds none, so that they are those
-- of the second one, and whether a good line defines a character
pub record FindingsView : Type 0 where
  pub faulty : List FaultyLineView
  pub passes_first : Bool
  pub has_characters : Bool

-- what a survey finds, as the code has it
abbrev pub findings_view : Findings → FindingsView
findings_view found = record { faulty = map faulty_line_view found.faulty.items; passes_first = found.passes_first; has_characters = found.has_characters }

-- whether no line has a fault by itself
abbrev pub passes_first : List LineView → Bool
passes_first lines = length (faulty_lines lines) == 0

-- whether one of the good lines defines a character
abbrev pub has_characters : List LineView → Bool
has_characters lines = nat_lt 0 (length (defined_characters (definitions (good_items (files_of lines) lines))))

-- the characters that the good lines define, with their infos; no list names one
abbrev pub good_characters : List LineView → List (ℕ × Info)
good_characters lines = defined_entries (definitions (good_items (files_of lines) lines)) (record { mode = []; nocont = [] })

-- what a survey finds in these lines
abbrev pub survey_of : List LineView → FindingsView
survey_of lines = record {
  faulty = if passes_first lines then unresolved_lines lines else faulty_lines lines;
  passes_first = passes_first lines;
  has_characters = has_characters lines;
}
