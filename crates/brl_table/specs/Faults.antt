-- Why lines define no table, and why the files of a source don't: the first fault of two passes
-- over the lines. The first pass looks at each line after those before it, the second one at each
-- line among all. The faults and their order are this project's own choice.
use Rattle.std.specs.Prelude.{ℕ, ◌≡◌, ◌<◌, Bool, false, ◌||◌, not, ◌⊎◌, nat_lt, if◌then◌else◌, List, [], ◌∷◌, ◌++◌, length, take, slice_get, string_bytes, Option, Some, None, Result, Ok, Err}
use Rattle.std.specs.List.{list_any}
use Rattle.std.specs.Option.{option_map_or}
use Rattle.brl_failure.specs.declared.failure.Failure.{Failure}
use Rattle.brl_failure.specs.declared.failure.Failure.TheVariants as failures
use Rattle.brl_lines.specs.Answer.{FileAnswers}
use Rattle.brl_lines.specs.Outcome.{AreLinesOf, IsLoadFault}
use Rattle.brl_lines.specs.Tokens.{LineView}
use Rattle.brl_lines.specs.declared.fault.LoadFault.{LoadFault}
use Rattle.brl_rules.specs.TableView.{TableView}
use Rattle.brl_rules.specs.Text.{is_literary, is_text}
use Rattle.brl_table.specs.Items.{Fault, fault}
use Rattle.brl_table.specs.Reading.{cells_indicated, characters_table, defined_characters, definitions, files_of, item_in, items_of, used_rules}
use Rattle.brl_table.specs.declared.item.Item.{Item}
use Rattle.brl_table.specs.declared.item.Item.TheVariants.{Indicates, Lists, Rules}
use Rattle.brl_table.specs.declared.item.NumericRole.{NumericRole}
use Rattle.brl_table.specs.declared.item.NumericRole.TheVariants.{KeepsMode, NeedsNoContractSign}
use Rattle.brl_table.specs.declared.item.RuleLine.{RuleLine}
use Rattle.brl_table.specs.declared.no_table.NoTable.{NoTable}
use Rattle.brl_table.specs.declared.no_table.NoTable.TheVariants.{Load, Table}
use Rattle.brl_table.specs.declared.table_fault.TableFault.{TableFault}
use Rattle.brl_table.specs.declared.table_fault.TableFaultKind.TheVariants.{IndicatorTwice, TooMany, TwoRoles, UndefinedInList, UndefinedInRule}

-- ---- The first pass

-- the text of an operand of a line, from 0; empty where the line has none there
abbrev pub operand_of : LineView → ℕ → List ℕ
operand_of line n = option_map_or (λ token. token.text) (slice_get line.operands n) []

-- the opcode that a line's fault names: the place opcode of a rule that follows `noback` or `nofor`
abbrev pub opcode_in : LineView → Item → List ℕ
opcode_in line (Rules r) = if r.head.prefixed then operand_of line 0 else line.opcode.text
opcode_in line other = line.opcode.text

-- the operand that has a rule's characters
abbrev pub characters_in : LineView → RuleLine → List ℕ
characters_in line r = operand_of line (if r.head.prefixed then 1 else 0)

-- whether the items define more characters or more used rules than a table may have
abbrev pub are_too_many : List Item → Bool
are_too_many items = nat_lt 1024 (length (defined_characters (definitions items))) || nat_lt 4096 (length (used_rules items))

-- whether an item gives cells to an indicator to which an earlier one gave some
abbrev pub repeats_indicator : List Item → Item → Bool
repeats_indicator earlier (Indicates sign cells) = nat_lt 0 (length (cells_indicated earlier sign))
repeats_indicator earlier other = false

-- the fault of a line after these items: its own, or what it does to the table; never both of these
abbrev pub fault_after : List Item → LineView → Result Item Fault → Option Fault
fault_after earlier line (Ok item) =
    if repeats_indicator earlier item then Some (fault IndicatorTwice (opcode_in line item))
    else if are_too_many (earlier ++ item ∷ []) then Some (fault TooMany (opcode_in line item))
    else None
fault_after earlier line (Err wrong) = Some wrong

-- the fault that the first pass finds in the line at a place
abbrev pub first_pass_fault : List LineView → ℕ → LineView → Option Fault
first_pass_fault lines place line =
    let files = files_of lines in
    fault_after (items_of files (take place lines)) line (item_in files line)

-- ---- The second pass

-- whether a `numericnocontchars` line names a character that has a `litdigit` line
abbrev pub has_two_roles : TableView → NumericRole → List ℕ → Bool
has_two_roles t KeepsMode chars = false
has_two_roles t NeedsNoContractSign chars = list_any (is_literary t) chars

-- the fault of a line's references to characters: one is undefined, or would have two roles
abbrev pub reference_fault : TableView → LineView → Item → Option Fault
reference_fault t line (Rules r) = if is_text t r.chars then None else Some (fault UndefinedInRule (characters_in line r))
reference_fault t line (Lists l) =
    if not (is_text t l.chars) then Some (fault UndefinedInList (operand_of line 0))
    else if has_two_roles t l.role l.chars then Some (fault TwoRoles (operand_of line 0))
    else None
reference_fault t line other = None

-- the fault of what a line refers to, where it was read; a line with a fault of its own refers to
-- nothing
abbrev pub reference_fault_of : TableView → LineView → Result Item Fault → Option Fault
reference_fault_of t line (Ok item) = reference_fault t line item
reference_fault_of t line (Err wrong) = None

-- the fault that the second pass finds in the line at a place
abbrev pub second_pass_fault : List LineView → ℕ → LineView → Option Fault
second_pass_fault lines place line =
    let files = files_of lines in
    reference_fault_of (characters_table files (items_of files lines)) line (item_in files line)

-- ---- The first fault

-- a pass over the lines finds no fault before this place
abbrev pub PassesBefore : (ℕ → LineView → Option Fault) → List LineView → ℕ → Type 0
PassesBefore fault_at lines end = (place : ℕ) (line : LineView) → place < end → slice_get lines place ≡ Some line → fault_at place line ≡ None

-- the first pass finds no fault
abbrev pub PassesFirst : List LineView → Type 0
PassesFirst lines = PassesBefore (first_pass_fault lines) lines (length lines)

-- neither pass finds a fault
pub record PassesAll (lines : List LineView) : Type 0 where
  pub first : PassesFirst lines
  pub second : PassesBefore (second_pass_fault lines) lines (length lines)

-- the line at a place is the first in which a pass finds a fault
pub record IsFirstFound (fault_at : ℕ → LineView → Option Fault) (lines : List LineView) (place : ℕ) (line : LineView) (wrong : Fault) : Type 0 where
  pub there : slice_get lines place ≡ Some line
  pub faulty : fault_at place line ≡ Some wrong
  pub passed : PassesBefore fault_at lines place

-- the first fault: that of the first pass or, where all lines pass it, that of the second
abbrev pub IsFirstFault : List LineView → ℕ → LineView → Fault → Type 0
IsFirstFault lines place line wrong =
    IsFirstFound (first_pass_fault lines) lines place line wrong
    ⊎ (PassesFirst lines × IsFirstFound (second_pass_fault lines) lines place line wrong)

-- the fault is the first one, with the file and number of its line
abbrev pub IsFirstFaultOf : List LineView → TableFault → Type 0
IsFirstFaultOf lines found =
    (place : ℕ) × (line : LineView) × IsFirstFault lines place line (fault found.kind (string_bytes found.subject))
    × (string_bytes found.file ≡ line.file) × (found.line ≡ line.line)

-- the fault of a line, with the line's file and number, unless memory ran out
abbrev pub IsAt : LineView → Failure Fault → Failure TableFault → Type 0
IsAt line failure failures.Memory = Unit {0}
IsAt line failures.Memory (failures.Fault found) = ⊥
IsAt line (failures.Fault wrong) (failures.Fault found) =
    (fault found.kind (string_bytes found.subject) ≡ wrong) × (string_bytes found.file ≡ line.file) × (found.line ≡ line.line)

-- ---- Files

-- why there is no table at this path: a file can't be loaded, or a line has a fault
abbrev pub IsFaultAt : FileAnswers → List ℕ → NoTable → Type 0
IsFaultAt gives root (Load fault) = IsLoadFault gives root (failures.Fault fault)
IsFaultAt gives root (Table fault) = (lines : List LineView) × AreLinesOf gives root lines × IsFirstFaultOf lines fault

-- how loading the files ended
abbrev pub load_outcome : {T : Type 0} → Result T (Failure NoTable) → Result (Unit {0}) (Failure LoadFault)
load_outcome (Err (failures.Fault (Load fault))) = Err (failures.Fault fault)
load_outcome (Err failures.Memory) = Err failures.Memory
load_outcome outcome = Ok tt
