-- Internal. What the steps of building a table keep.
use Rattle.std.specs.Prelude.{All, ℕ, Bool, ◌≡◌, ◌+◌, ◌≤◌, ◌<◌, true, false, ◌&&◌, ◌||◌, not, nat_eq, if◌then◌else◌, List, [], ◌∷◌, ◌++◌, length, map, slice_get, string_bytes, is_some, None, Result, Ok, Err, Some, bit_or}
use Rattle.std.specs.List.{list_any}
use Rattle.indexmap.specs.IndexSet.{contains}
use Rattle.brl_lines.specs.Tokens.{LineView}
use Rattle.brl_table.specs.declared.characters.Characters.{Characters}
use Rattle.brl_table.specs.declared.item.Definition.{Definition}
use Rattle.brl_table.specs.declared.item.Item.{Item}
use Rattle.brl_failure.specs.Failure.{IfFault}
use Rattle.brl_failure.specs.declared.failure.Failure.{Failure}
use Rattle.brl_table.specs.declared.item.NumericRole.{NumericRole}
use Rattle.brl_table.specs.declared.item.NumericRole.TheVariants.{KeepsMode, NeedsNoContractSign}
use Rattle.brl_rules.specs.declared.rule.Info.{Info}
use Rattle.brl_rules.specs.declared.rule.Rule.{Rule}
use Rattle.brl_rules.specs.declared.signs.Sign.{Sign}
use Rattle.brl_table.specs.declared.table_fault.TableFault.{TableFault}
use Rattle.brl_table.specs.Items.{Fault, fault}
use Rattle.brl_table.specs.ItemLimits.{IsItemWithinLimits}
use Rattle.brl_rules.specs.Limits.{IsRule}
use Rattle.brl_rules.specs.Signs.{by_sign, cells_at}
use Rattle.brl_table.specs.Faults.{PassesAll, PassesFirst, reference_fault, fault_after, repeats_indicator}
use Rattle.brl_table.specs.Reading.{Listed, characters_alone, definitions, defined_entries, files_of, first_plain, item_in, listed_characters, notices_after, rule_of, cells_indicated, used_in, used_rules}
use Rattle.brl_rules.specs.TableView.{TableView}

-- ---- characters

-- the info of a character after its first definition
abbrev pub info_first : ℕ → Definition → Info
info_first number d = record {
  number = number;
  cells = d.cells;
  classes = d.classes;
  literary = d.literary;
  mode = false;
  nocont = false;
  fold = d.fold;
  file = d.file;
  line = d.line;
}

-- the info of a character after one more definition: the first `litdigit` line gives it its cells
abbrev pub merged : Definition → Info → Info
merged d info =
    let gives = d.literary && not info.literary in
    record info {
      cells = if gives then d.cells else info.cells;
      classes = record { 0 = bit_or info.classes.0 d.classes.0 };
      literary = info.literary || d.literary;
      fold = if nat_eq d.character info.fold then d.fold else info.fold;
      file = if gives then d.file else info.file;
      line = if gives then d.line else info.line;
    }

-- no list names a character
abbrev pub none_listed : Listed
none_listed = record { mode = []; nocont = [] }

-- the listed characters, and more with this role
abbrev pub listed_more : NumericRole → List ℕ → Listed → Listed
listed_more KeepsMode chars listed = record listed { mode = listed.mode ++ chars }
listed_more NeedsNoContractSign chars listed = record listed { nocont = listed.nocont ++ chars }

-- the info of a character after a list gives it this role
abbrev pub with_role : NumericRole → Info → Info
with_role KeepsMode info = record info { mode = true }
with_role NeedsNoContractSign info = record info { nocont = true }

-- the listed characters, and those that the list lines among these items name
abbrev pub listed_with : Listed → List Item → Listed
listed_with listed items = record { mode = listed.mode ++ (listed_characters items).mode; nocont = listed.nocont ++ (listed_characters items).nocont }

-- whether one of the definitions is of the character
abbrev pub is_known : List Definition → ℕ → Bool
is_known defined c = list_any (λ d. nat_eq c d.character) defined

-- the characters, those of plain lines and the notices are what these definitions give
pub record CharactersRepresent (defined : List Definition) (characters : Characters) : Type 0 where
  pub entries_are : characters.infos.entries ≡ defined_entries defined none_listed
  pub plain_are : (c : ℕ) → contains nat_eq characters.plain c ≡ is_some (first_plain defined c)
  pub notices_are : characters.notices.items ≡ notices_after [] defined

-- the characters and the notices are what these items give, with the roles of the list lines
pub record HaveRoles (items : List Item) (characters : Characters) : Type 0 where
  pub entries_are : characters.infos.entries ≡ defined_entries (definitions items) (listed_characters items)
  pub notices_are : characters.notices.items ≡ notices_after [] (definitions items)

-- ---- the first pass

-- the indicators have the cells that these items give them
abbrev pub SignsRepresent : List Item → List (List ℕ) → Type 0
SignsRepresent items signs = signs ≡ by_sign (cells_indicated items)

-- the characters, the indicators and the number of used rules are what these items give
pub record Represents (items : List Item) (characters : Characters) (signs : List (List ℕ)) (used : ℕ) : Type 0 where
  pub defined : CharactersRepresent (definitions items) characters
  pub indicated : SignsRepresent items signs
  pub counted : used ≡ length (used_rules items)

-- there are at most 1,024 characters, 16 cells for an indicator, and 4,096 used rules
pub record AreWithinLimits (characters : Characters) (signs : List (List ℕ)) (used : ℕ) : Type 0 where
  pub few_characters : length characters.infos.entries ≤ 1024
  pub few_cells : (sign : Sign) → length (cells_at signs sign) ≤ 16
  pub few_rules : used ≤ 4096

-- an item of the file with this number was added, and the limits still hold
pub record HasAdded (old : List Item) (file : ℕ) (item : Item) (new : List Item) (characters : Characters) (signs : List (List ℕ)) (used : ℕ) : Type 0 where
  pub added : new ≡ old ++ item ∷ []
  pub once : repeats_indicator old item ≡ false
  pub limits : IsItemWithinLimits (file + 1) item
  pub represents : Represents (old ++ item ∷ []) characters signs used
  pub within : AreWithinLimits characters signs used

-- a line of the file with this number is read as `want`: its item is added, or its fault is
-- returned
abbrev pub Adds : List Item → LineView → ℕ → Result Item Fault → List Item → Characters → List (List ℕ) → ℕ → Result (Unit {0}) (Failure Fault) → Type 0
Adds old line file want new characters signs used (Ok done) =
    (item : Item) × (want ≡ Ok item) × HasAdded old file item new characters signs used
Adds old line file want new characters signs used (Err failure) = IfFault (λ found. fault_after old line want ≡ Some found) failure

-- all the lines pass the first pass, and these are their items
pub record AreAdded (lines : List LineView) (items : List Item) (characters : Characters) (signs : List (List ℕ)) (used : ℕ) : Type 0 where
  pub aligned : map Ok items ≡ map (item_in (files_of lines)) lines
  pub represents : Represents items characters signs used
  pub limits : All (IsItemWithinLimits (length (files_of lines))) items
  pub within : AreWithinLimits characters signs used
  pub passed : PassesFirst lines

-- ---- the second pass

-- the characters as the second pass sees them: a table that has nothing else
abbrev pub over : List (ℕ × Info) → TableView
over characters = characters_alone characters [] []

-- the second pass finds no fault before this place, in lines with these items
abbrev pub Resolves : List (ℕ × Info) → List LineView → List Item → ℕ → Type 0
Resolves characters lines items end =
    (place : ℕ) (line : LineView) (item : Item) → place < end → slice_get lines place ≡ Some line → slice_get items place ≡ Some item
    → reference_fault (over characters) line item ≡ None

-- the second pass finds its first fault in the line at a place
pub record IsFirstUnresolved (characters : List (ℕ × Info)) (lines : List LineView) (items : List Item) (place : ℕ) (line : LineView) (item : Item) (wrong : Fault) : Type 0 where
  pub there : slice_get lines place ≡ Some line
  pub item_there : slice_get items place ≡ Some item
  pub faulty : reference_fault (over characters) line item ≡ Some wrong
  pub passed : Resolves characters lines items place

-- the fault is the first one of the second pass, with the file and number of its line
abbrev pub IsReferenceFault : List (ℕ × Info) → List LineView → List Item → TableFault → Type 0
IsReferenceFault characters lines items found =
    (place : ℕ) × (line : LineView) × (item : Item) × IsFirstUnresolved characters lines items place line item (fault found.kind (string_bytes found.subject))
    × (string_bytes found.file ≡ line.file) × (found.line ≡ line.line)

-- the second pass over one line: its rule is added last if it is used, or its fault is returned
abbrev pub ResolvesLine : List (ℕ × Info) → LineView → Item → List Rule → List Rule → Result (Unit {0}) (Failure Fault) → Type 0
ResolvesLine characters line item old new (Ok done) =
    (reference_fault (over characters) line item ≡ None) × (new ≡ old ++ map (rule_of (over characters)) (used_in item))
ResolvesLine characters line item old new (Err failure) = IfFault (λ found. reference_fault (over characters) line item ≡ Some found) failure

-- the second pass over one line whose rule isn't kept: its fault is returned, if it has one
abbrev pub FindsReference : List (ℕ × Info) → LineView → Item → Result (Unit {0}) (Failure Fault) → Type 0
FindsReference characters line item (Ok done) = reference_fault (over characters) line item ≡ None
FindsReference characters line item (Err failure) = IfFault (λ found. reference_fault (over characters) line item ≡ Some found) failure

-- ---- both passes

-- the lines pass both passes; these are their items, and these rules are the used ones
pub record AreRead (lines : List LineView) (items : List Item) (characters : Characters) (signs : List (List ℕ)) (used : ℕ) (rules : List Rule) : Type 0 where
  pub aligned : map Ok items ≡ map (item_in (files_of lines)) lines
  pub marked : HaveRoles items characters
  pub indicated : SignsRepresent items signs
  pub limits : All (IsItemWithinLimits (length (files_of lines))) items
  pub within : AreWithinLimits characters signs used
  pub few_rules : length rules ≤ 4096
  pub rules_valid : All (IsRule characters.infos.entries (length (files_of lines))) rules
  pub rules_are : rules ≡ map (rule_of (over characters.infos.entries)) (used_rules items)
  pub passed : PassesAll lines
