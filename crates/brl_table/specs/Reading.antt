-- The table that a list of lines defines. Each line is read by itself; each fact of the table is
-- then a statement on what all the lines define. From the manual, section "Character-Definition
-- Opcodes": a character may have several definitions; the first one gives its cells, and its
-- classes add up; a `litdigit` line gives a digit of numbers its cells, whatever other lines do; an
-- `uplow` line defines a capital and its small letter. Section "Translation Opcodes": `=` in a rule
-- means the cells of its characters. Section "Braille Indicator Opcodes": the cells of the
-- indicators, `numericmodechars` and `numericnocontchars`. Which characters are compared without
-- case, the limits, which lines define a table and the notices are this project's own choice.
use Rattle.std.specs.Prelude.{ℕ, ◌+◌, ◌≤◌, Bool, false, ◌&&◌, not, nat_eq, if◌then◌else◌, IsTrue, List, [], ◌∷◌, ◌++◌, length, map, filter, fold, position, unwrap_or, Option, is_some, Result, Ok, Err, bit_or, bytes_eq}
use Rattle.std.specs.List.{find, flat_map, list_all, list_any}
use Rattle.std.specs.Option.{option_map_or, option_or}
use Rattle.std.specs.Result.{is_ok}
use Rattle.brl_lines.specs.Tokens.{LineView}
use Rattle.brl_rules.specs.declared.class.Class.{Class}
use Rattle.brl_table.specs.declared.item.Definition.{Definition}
use Rattle.brl_table.specs.declared.item.Item.{Item}
use Rattle.brl_table.specs.declared.item.Item.TheVariants.{Defines, DefinesBoth, Rules, Indicates, Lists}
use Rattle.brl_table.specs.declared.item.NumericRole.{NumericRole}
use Rattle.brl_table.specs.declared.item.NumericRole.TheVariants.{KeepsMode, NeedsNoContractSign}
use Rattle.brl_table.specs.declared.item.RuleLine.{RuleLine}
use Rattle.brl_rules.specs.declared.rule.Info.{Info}
use Rattle.brl_rules.specs.declared.rule.Notice.{Notice}
use Rattle.brl_rules.specs.declared.rule.Rule.{Rule}
use Rattle.brl_rules.specs.declared.signs.Sign.{Sign}
use Rattle.brl_table.specs.Items.{Fault, item_of}
use Rattle.brl_rules.specs.Rank.{in_rank}
use Rattle.brl_rules.specs.Signs.{by_sign, is_same_sign, no_cells}
use Rattle.brl_rules.specs.TableView.{TableView, info_of}
use Rattle.brl_rules.specs.Text.{fold_of, is_literary, is_text}

-- ---- Lists without repetition

-- the list with x added last, unless x is in it already
abbrev pub insert_new : {X : Type 0} → (X → X → Bool) → List X → X → List X
insert_new eq [] x = x ∷ []
insert_new eq (y ∷ ys) x = if eq x y then y ∷ ys else y ∷ insert_new eq ys x

-- the list without repetitions: each element where it first appears
abbrev pub dedup : {X : Type 0} → (X → X → Bool) → List X → List X
dedup eq xs = fold (insert_new eq) [] xs

-- ---- Files

-- the files in the order in which lines first name them
abbrev pub files_of : List LineView → List (List ℕ)
files_of lines = dedup bytes_eq (map (λ line. line.file) lines)

-- the place of a path among the files, if it is one of them
abbrev pub file_place : List (List ℕ) → List ℕ → Option ℕ
file_place files path = position (λ file. bytes_eq path file) files

-- the number of a file
abbrev pub file_number : List (List ℕ) → List ℕ → ℕ
file_number files path = unwrap_or (file_place files path) 0

-- ---- The items of the lines

-- the item of a line among these files, or its fault
abbrev pub item_in : List (List ℕ) → LineView → Result Item Fault
item_in files line = item_of (file_number files line.file) line

-- the item, as a list; empty for a fault
abbrev pub ok_of : Result Item Fault → List Item
ok_of (Ok item) = item ∷ []
ok_of (Err wrong) = []

-- the items of the lines, in order
abbrev pub items_of : List (List ℕ) → List LineView → List Item
items_of files lines = flat_map (λ line. ok_of (item_in files line)) lines

-- the items of all lines of some files
abbrev pub items_in : List LineView → List Item
items_in lines = items_of (files_of lines) lines

-- ---- Characters

-- the definitions in one item: an `uplow` line has two, the uppercase character's first
abbrev pub definition_in : Item → List Definition
definition_in (Defines d) = d ∷ []
definition_in (DefinesBoth upper lower) = upper ∷ lower ∷ []
definition_in other = []

-- the definitions in all these items, in order
abbrev pub definitions : List Item → List Definition
definitions items = flat_map definition_in items

-- the definitions of a character
abbrev pub about : List Definition → ℕ → List Definition
about defined c = filter (λ d. nat_eq c d.character) defined

-- its first `litdigit` line
abbrev pub first_literary : List Definition → ℕ → Option Definition
first_literary defined c = find (λ d. nat_eq c d.character && d.literary) defined

-- its first plain line
abbrev pub first_plain : List Definition → ℕ → Option Definition
first_plain defined c = find (λ d. nat_eq c d.character && not d.literary) defined

-- the line that gives it its cells: its first `litdigit` line if it has one, else its first plain
-- one
abbrev pub defining_line : List Definition → ℕ → Option Definition
defining_line defined c = option_or (first_literary defined c) (first_plain defined c)

-- the first `uplow` line that names it first: the first that makes another character its fold
abbrev pub first_uplow : List Definition → ℕ → Option Definition
first_uplow defined c = find (λ d. nat_eq c d.character && not (nat_eq c d.fold)) defined

-- the classes of all its lines together
abbrev pub defined_classes : List Definition → ℕ → Class
defined_classes defined c = record { 0 = fold bit_or 0 (map (λ d. d.classes.0) (about defined c)) }

-- the characters in the order of their first definitions
abbrev pub defined_characters : List Definition → List ℕ
defined_characters defined = dedup nat_eq (map (λ d. d.character) defined)

-- the characters of `numericmodechars` lines, and those of `numericnocontchars` lines
pub record Listed : Type 0 where
  pub mode : List ℕ
  pub nocont : List ℕ

-- the info of a character, given its number
abbrev pub defined_info : List Definition → Listed → ℕ → ℕ → Info
defined_info defined listed number c = record {
  number = number;
  cells = option_map_or (λ d. d.cells) (defining_line defined c) [];
  classes = defined_classes defined c;
  literary = is_some (first_literary defined c);
  mode = list_any (nat_eq c) listed.mode;
  nocont = list_any (nat_eq c) listed.nocont;
  fold = option_map_or (λ d. d.fold) (first_uplow defined c) c;
  file = option_map_or (λ d. d.file) (defining_line defined c) 0;
  line = option_map_or (λ d. d.line) (defining_line defined c) 0;
}

-- the characters with their infos, numbered from this number on
abbrev pub with_numbers : (ℕ → ℕ → Info) → ℕ → List ℕ → List (ℕ × Info)
with_numbers info number [] = []
with_numbers info number (c ∷ cs) = (c, info number c) ∷ with_numbers info (number + 1) cs

-- the characters of a table with their infos, numbered from 0
abbrev pub defined_entries : List Definition → Listed → List (ℕ × Info)
defined_entries defined listed = with_numbers (defined_info defined listed) 0 (defined_characters defined)

-- the characters of a list line, if its role is the first one
abbrev pub chars_as : NumericRole → NumericRole → List ℕ → List ℕ
chars_as KeepsMode KeepsMode chars = chars
chars_as NeedsNoContractSign NeedsNoContractSign chars = chars
chars_as role other chars = []

-- the characters to which an item gives this role
abbrev pub listed_in : NumericRole → Item → List ℕ
listed_in role (Lists l) = chars_as role l.role l.chars
listed_in role other = []

-- the characters of all the list lines, by their roles
abbrev pub listed_characters : List Item → Listed
listed_characters items = record { mode = flat_map (listed_in KeepsMode) items; nocont = flat_map (listed_in NeedsNoContractSign) items }

-- whether an earlier definition of the character is of the same kind, `litdigit` or plain
abbrev pub is_repeated : List Definition → Definition → Bool
is_repeated earlier d = is_some (if d.literary then first_literary earlier d.character else first_plain earlier d.character)

-- the notice of a repeated definition
abbrev pub notice_of : Definition → Notice
notice_of d = record { character = d.character; file = d.file; line = d.line }

-- the notices of the repeated ones among definitions that follow these earlier ones
abbrev pub notices_after : List Definition → List Definition → List Notice
notices_after earlier [] = []
notices_after earlier (d ∷ later) = (if is_repeated earlier d then notice_of d ∷ [] else []) ++ notices_after (earlier ++ d ∷ []) later

-- the table of these characters, files and notices, without rules and indicators
abbrev pub characters_alone : List (ℕ × Info) → List (List ℕ) → List Notice → TableView
characters_alone characters files notices = record {
  characters = characters;
  rules = [];
  signs = no_cells;
  files = files;
  notices = notices;
}

-- the table of the characters that these items define
abbrev pub characters_table : List (List ℕ) → List Item → TableView
characters_table files items = characters_alone (defined_entries (definitions items) (listed_characters items)) files (notices_after [] (definitions items))

-- ---- Indicators

-- the cells that an item gives this indicator, if it does
abbrev pub indicated_in : Sign → Item → List ℕ
indicated_in sign (Indicates other cells) = if is_same_sign sign other then cells else []
indicated_in sign other = []

-- the cells of an indicator: those of the one line that gives it some, and none where no line does
abbrev pub cells_indicated : List Item → Sign → List ℕ
cells_indicated items sign = flat_map (indicated_in sign) items

-- ---- Rules

-- the rule of an item, if it is used
abbrev pub used_in : Item → List RuleLine
used_in (Rules r) = if r.head.used then r ∷ [] else []
used_in other = []

-- the used rules, in the order of their lines
abbrev pub used_rules : List Item → List RuleLine
used_rules items = flat_map used_in items

-- the cells of a character's own definition
abbrev pub own_cells : TableView → ℕ → List ℕ
own_cells t c = option_map_or (λ info. info.cells) (info_of t c) []

-- the rule of a line over a table's characters, which are folded; `=` means their own cells
abbrev pub rule_of : TableView → RuleLine → Rule
rule_of t r =
    let chars = map (fold_of t) r.chars in
    record {
      chars = chars;
      cells = unwrap_or r.cells (flat_map (own_cells t) chars);
      place = r.place;
      file = r.head.file;
      line = r.head.line;
    }

-- ---- The table

-- the table of lines that are good: its characters, the used rules in rank, and the indicators
abbrev pub table_of : List LineView → TableView
table_of lines =
    let items = items_in lines in
    let t = characters_table (files_of lines) items in
    record t {
      rules = in_rank (map (rule_of t) (used_rules items));
      signs = by_sign (cells_indicated items);
    }

-- ---- Lines that define a table

-- whether an item gives this indicator its cells
abbrev pub indicates : Sign → Item → Bool
indicates sign (Indicates other cells) = is_same_sign sign other
indicates sign other = false

-- the characters that an item names in a rule or a list
abbrev pub named_in : Item → List ℕ
named_in (Rules r) = r.chars
named_in (Lists l) = l.chars
named_in other = []

-- lines define a table where each is good by itself, and they are good together
pub record AreGood (lines : List LineView) : Type 0 where
  -- each line has an item
  pub each : IsTrue (list_all (λ line. is_ok (item_in (files_of lines) line)) lines)
  -- at most one item gives an indicator its cells
  pub once : (sign : Sign) → length (filter (indicates sign) (items_in lines)) ≤ 1
  -- there are at most 1,024 characters, and at most 4,096 used rules
  pub few_characters : length (table_of lines).characters ≤ 1024
  pub few_rules : length (table_of lines).rules ≤ 4096
  -- the characters of each rule and list are defined
  pub known : IsTrue (is_text (table_of lines) (flat_map named_in (items_in lines)))
  -- no `numericnocontchars` line names a character that has a `litdigit` line
  pub apart : IsTrue (not (list_any (is_literary (table_of lines)) (listed_characters (items_in lines)).nocont))
