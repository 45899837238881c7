-- An indicator has cells exactly where an item gives it some.
use Rattle.std.proofs.Common.{ℕ, ◌≤◌, ◌≡◌, Bool, true, false, cond, List, [], ◌∷◌, ◌++◌, length, filter, nat_lt, refl, arith, ap, Option, Some, None, Result, Ok, Err, IfOk, All, length-append}
use Rattle.std.proofs.lemmas.List.Elements.{All-append, All-cons, All-head, All-nil, All-tail}
use Rattle.brl_cells.specs.Dots.{cells_reading, parts, reading}
use Rattle.brl_cells.specs.declared.fault.DotsFault.{DotsFault}
use Rattle.brl_cells.proofs.Parts.{limited_is, parts_some}
use Rattle.brl_failure.specs.Failure.{◌>>=◌}
use Rattle.brl_lines.specs.Tokens.{LineView, TokenView}
use Rattle.brl_rules.specs.Signs.{is_same_sign}
use Rattle.brl_rules.specs.declared.class.Class.{Class}
use Rattle.brl_rules.specs.declared.place.Place.{Place}
use Rattle.brl_rules.specs.declared.signs.Sign.{Sign}
use Rattle.brl_table.specs.Items.{Fault, by_opcode, cells_of, character_of, cells_of_both, defined, fault, or_fault, rule_cells_of, ruled, ruled_as, some_characters_of, one_operand, two_characters_of, two_operands}
use Rattle.brl_table.specs.Opcodes.{opcode_of}
use Rattle.brl_table.specs.Reading.{cells_indicated, file_number, indicates, item_in, items_of, ok_of}
use Rattle.brl_table.specs.declared.item.Item.{Item}
use Rattle.brl_table.specs.declared.item.Item.TheVariants.{Rules, Indicates}
use Rattle.brl_table.specs.declared.item.RuleHead.{RuleHead}
use Rattle.brl_table.specs.declared.opcode.Opcode.{Opcode}
use Rattle.brl_table.specs.declared.opcode.Opcode.TheVariants.{Plain, Literary, Uplow, Placed, Noback, Nofor, Display, Indicator, NumericList, Include}
use Rattle.brl_table.specs.declared.table_fault.TableFaultKind.TheVariants.{BadDots, TooMany}

-- ---- A line gives an indicator at least one cell

abbrev pub HasCells : Item → Type 0
HasCells (Indicates sign cells) = 1 ≤ length cells
HasCells other = Unit {0}

abbrev GivesCells : Result Item Fault → Type 0
GivesCells read = IfOk read HasCells

after : {A : Type 0} (step : Result A Fault) (next : A → Result Item Fault) → ((x : A) → GivesCells (next x)) → GivesCells (step >>= next)
after (Ok x) next h = h x
after (Err wrong) next h = tt

defined-cells : (classes : Class) (literary : Bool) (file line : ℕ) (opcode : List ℕ) (operands : List TokenView) → GivesCells (defined classes literary file line opcode operands)
defined-cells classes literary file line opcode operands =
    after (two_operands opcode operands) _ (λ two. after (character_of two.0) _ (λ c. after (cells_of two.1) _ (λ cells. tt)))

indicated-cells : (sign : Sign) (word : List ℕ) → GivesCells (cells_of word >>= (λ cells. Ok (Indicates sign cells)))
indicated-cells sign word = by_reading (reading 16 word) (λ cells is. parts_some word cells (limited_is 16 (cells_reading (parts word)) cells is).0)
  where
    by_reading : (read : Result (List ℕ) DotsFault) → ((cells : List ℕ) → read ≡ Ok cells → 1 ≤ length cells) → GivesCells (or_fault BadDots word read >>= (λ cells. Ok (Indicates sign cells)))
    by_reading (Ok cells) some = some cells refl
    by_reading (Err wrong) some = tt

ruled-cells : (place : Place) (head : RuleHead) (opcode : List ℕ) (operands : List TokenView) → GivesCells (ruled place head opcode operands)
ruled-cells place head opcode operands =
    after (two_operands opcode operands) _ (λ two. after (some_characters_of two.0) _ (λ chars. after (rule_cells_of two.1) _ (λ cells. by_length chars cells (nat_lt 32 (length chars)))))
  where
    by_length : (chars : List ℕ) (cells : Option (List ℕ)) (long : Bool)
        → GivesCells (cond long (Err (fault TooMany opcode)) (Ok (Rules (record { place = place; chars = chars; cells = cells; head = head }))))
    by_length chars cells true = tt
    by_length chars cells false = tt

ruled_as-cells : (head : RuleHead) (opcode : List ℕ) (operands : List TokenView) (known : Option Opcode) → GivesCells (ruled_as head opcode operands known)
ruled_as-cells head opcode operands (Some (Placed place)) = ruled-cells place head opcode operands
ruled_as-cells head opcode operands other = tt

by_opcode-cells : (file line : ℕ) (opcode : List ℕ) (operands : List TokenView) (known : Option Opcode) → GivesCells (by_opcode file line opcode operands known)
by_opcode-cells file line opcode operands None = tt
by_opcode-cells file line opcode operands (Some (Plain classes)) = defined-cells classes _ file line opcode operands
by_opcode-cells file line opcode operands (Some Literary) = defined-cells _ _ file line opcode operands
by_opcode-cells file line opcode operands (Some Uplow) =
    after (two_operands opcode operands) _ (λ two. after (two_characters_of two.0) _ (λ cs. after (cells_of_both two.1) _ (λ cells. tt)))
by_opcode-cells file line opcode operands (Some (Placed place)) = ruled-cells place _ opcode operands
by_opcode-cells file line opcode [] (Some Noback) = tt
by_opcode-cells file line opcode (next ∷ operands) (Some Noback) = ruled_as-cells _ next.text operands (opcode_of next.text)
by_opcode-cells file line opcode [] (Some Nofor) = tt
by_opcode-cells file line opcode (next ∷ operands) (Some Nofor) = ruled_as-cells _ next.text operands (opcode_of next.text)
by_opcode-cells file line opcode operands (Some Display) =
    after (two_operands opcode operands) _ (λ two. after (character_of two.0) _ (λ c. after (cells_of two.1) _ (λ cells. tt)))
by_opcode-cells file line opcode operands (Some (Indicator sign)) = after (one_operand opcode operands) _ (indicated-cells sign)
by_opcode-cells file line opcode operands (Some (NumericList role)) = after (one_operand opcode operands) _ (λ word. after (some_characters_of word) _ (λ chars. tt))
by_opcode-cells file line opcode [] (Some Include) = tt
by_opcode-cells file line opcode (name ∷ comment) (Some Include) = tt

pub all-cells : (files : List (List ℕ)) (lines : List LineView) → All HasCells (items_of files lines)
all-cells files [] = All-nil HasCells
all-cells files (line ∷ lines) =
    All-append HasCells (ok_of (item_in files line)) (items_of files lines) (one (item_in files line) (by_opcode-cells (file_number files line.file) line.line line.opcode.text line.operands (opcode_of line.opcode.text))) (all-cells files lines)
  where
    one : (read : Result Item Fault) → GivesCells read → All HasCells (ok_of read)
    one (Ok item) some = All-cons HasCells item [] some (All-nil HasCells)
    one (Err wrong) some = All-nil HasCells

-- ---- An indicator has cells exactly where an item gives it some

pub none-give : (sign : Sign) (items : List Item) → All HasCells items → cells_indicated items sign ≡ [] → filter (indicates sign) items ≡ []
none-give sign [] some none = refl
none-give sign (item ∷ items) some none = by_item item (All-head HasCells item items some) none (none-give sign items (All-tail HasCells item items some))
  where
    by_item : (item : Item) → HasCells item → cells_indicated (item ∷ items) sign ≡ [] → (cells_indicated items sign ≡ [] → filter (indicates sign) items ≡ []) → filter (indicates sign) (item ∷ items) ≡ []
    by_item (Indicates other cells) some none more = by_test (is_same_sign sign other) none
      where
        by_test : (same : Bool) → cond same cells [] ++ cells_indicated items sign ≡ [] → cond same (Indicates other cells ∷ filter (indicates sign) items) (filter (indicates sign) items) ≡ []
        by_test true none = absurd (omega (arith, some, ap length none, length-append cells (cells_indicated items sign)))
        by_test false none = more none
    by_item other some none more = more none

pub none-given : (sign : Sign) (items : List Item) → filter (indicates sign) items ≡ [] → cells_indicated items sign ≡ []
none-given sign [] none = refl
none-given sign (item ∷ items) none = by_item item none (none-given sign items)
  where
    by_item : (item : Item) → filter (indicates sign) (item ∷ items) ≡ [] → (filter (indicates sign) items ≡ [] → cells_indicated items sign ≡ []) → cells_indicated (item ∷ items) sign ≡ []
    by_item (Indicates other cells) none more = by_test (is_same_sign sign other) none
      where
        by_test : (same : Bool) → cond same (Indicates other cells ∷ filter (indicates sign) items) (filter (indicates sign) items) ≡ [] → cond same cells [] ++ cells_indicated items sign ≡ []
        by_test true none = absurd cc
        by_test false none = more none
    by_item other none more = more none
