-- Lines that are the same but for the places of their words define the same table.
use Rattle.std.proofs.Common.{◌≡◌, ◌≤◌, ◌∙◌, ◌++◌, ℕ, Bool, List, [], ◌∷◌, ap, filter, flat_map, length, map, not, refl, subst, sym, Option, Some, None}
use Rattle.std.specs.List.{list_all, list_any}
use Rattle.std.specs.Result.{is_ok}
use Rattle.std.specs.Str.{bytes_eq}
use Rattle.std.proofs.lemmas.List.Folds.{list_all-map}
use Rattle.std.proofs.lemmas.Simd.{map-map}
use Rattle.brl_lines.specs.Tokens.{LineView, TokenView}
use Rattle.brl_rules.specs.Rank.{in_rank}
use Rattle.brl_rules.specs.Signs.{by_sign}
use Rattle.brl_rules.specs.TableView.{TableView}
use Rattle.brl_rules.specs.Text.{is_literary, is_text}
use Rattle.brl_rules.specs.declared.class.Class.{Class}
use Rattle.brl_rules.specs.declared.place.Place.{Place}
use Rattle.brl_rules.specs.declared.signs.Sign.{Sign}
use Rattle.brl_table.specs.Items.{by_opcode, defined, defined_both, displayed, indicated, left_include, listed, ruled, ruled_after, ruled_as}
use Rattle.brl_table.specs.Opcodes.{opcode_of}
use Rattle.brl_table.specs.Reading.{AreGood, cells_indicated, characters_table, dedup, file_number, files_of, indicates, item_in, items_in, items_of, listed_characters, named_in, ok_of, rule_of, table_of, used_rules}
use Rattle.brl_table.specs.declared.item.Item.{Item}
use Rattle.brl_table.specs.declared.item.NumericRole.{NumericRole}
use Rattle.brl_table.specs.declared.item.RuleHead.{RuleHead}
use Rattle.brl_table.specs.declared.opcode.Opcode.{Opcode}
use Rattle.brl_table.specs.declared.opcode.Opcode.TheVariants.{Plain, Literary, Uplow, Placed, Noback, Nofor, Display, Indicator, NumericList, Include}
use Rattle.brl_cut.proofs.BareLines.{bare, word}

-- operands without their places
abbrev unplaced : List TokenView → List TokenView
unplaced operands = map (λ token. word token.text) operands

-- ---- Items

defined-bare : (classes : Class) (literary : Bool) (file line : ℕ) (opcode : List ℕ) (operands : List TokenView) → defined classes literary file line opcode (unplaced operands) ≡ defined classes literary file line opcode operands
defined-bare classes literary file line opcode [] = refl
defined-bare classes literary file line opcode (first ∷ []) = refl
defined-bare classes literary file line opcode (first ∷ second ∷ comment) = refl

both-bare : (file line : ℕ) (opcode : List ℕ) (operands : List TokenView) → defined_both file line opcode (unplaced operands) ≡ defined_both file line opcode operands
both-bare file line opcode [] = refl
both-bare file line opcode (first ∷ []) = refl
both-bare file line opcode (first ∷ second ∷ comment) = refl

displayed-bare : (opcode : List ℕ) (operands : List TokenView) → displayed opcode (unplaced operands) ≡ displayed opcode operands
displayed-bare opcode [] = refl
displayed-bare opcode (first ∷ []) = refl
displayed-bare opcode (first ∷ second ∷ comment) = refl

indicated-bare : (sign : Sign) (opcode : List ℕ) (operands : List TokenView) → indicated sign opcode (unplaced operands) ≡ indicated sign opcode operands
indicated-bare sign opcode [] = refl
indicated-bare sign opcode (first ∷ comment) = refl

listed-bare : (role : NumericRole) (opcode : List ℕ) (operands : List TokenView) → listed role opcode (unplaced operands) ≡ listed role opcode operands
listed-bare role opcode [] = refl
listed-bare role opcode (first ∷ comment) = refl

included-bare : (opcode : List ℕ) (operands : List TokenView) → left_include opcode (unplaced operands) ≡ left_include opcode operands
included-bare opcode [] = refl
included-bare opcode (first ∷ comment) = refl

ruled-bare : (place : Place) (head : RuleHead) (opcode : List ℕ) (operands : List TokenView) → ruled place head opcode (unplaced operands) ≡ ruled place head opcode operands
ruled-bare place head opcode [] = refl
ruled-bare place head opcode (first ∷ []) = refl
ruled-bare place head opcode (first ∷ second ∷ comment) = refl

ruled_as-bare : (head : RuleHead) (opcode : List ℕ) (operands : List TokenView) (known : Option Opcode) → ruled_as head opcode (unplaced operands) known ≡ ruled_as head opcode operands known
ruled_as-bare head opcode operands (Some (Placed place)) = ruled-bare place head opcode operands
ruled_as-bare head opcode operands known = refl

ruled_after-bare : (head : RuleHead) (prefix : List ℕ) (operands : List TokenView) → ruled_after head prefix (unplaced operands) ≡ ruled_after head prefix operands
ruled_after-bare head prefix [] = refl
ruled_after-bare head prefix (next ∷ operands) = ruled_as-bare head next.text operands (opcode_of next.text)

by_opcode-bare : (file line : ℕ) (opcode : List ℕ) (operands : List TokenView) (known : Option Opcode) → by_opcode file line opcode (unplaced operands) known ≡ by_opcode file line opcode operands known
by_opcode-bare file line opcode operands None = refl
by_opcode-bare file line opcode operands (Some (Plain classes)) = defined-bare classes _ file line opcode operands
by_opcode-bare file line opcode operands (Some Literary) = defined-bare _ _ file line opcode operands
by_opcode-bare file line opcode operands (Some Uplow) = both-bare file line opcode operands
by_opcode-bare file line opcode operands (Some (Placed place)) = ruled-bare place _ opcode operands
by_opcode-bare file line opcode operands (Some Noback) = ruled_after-bare _ opcode operands
by_opcode-bare file line opcode operands (Some Nofor) = ruled_after-bare _ opcode operands
by_opcode-bare file line opcode operands (Some Display) = displayed-bare opcode operands
by_opcode-bare file line opcode operands (Some (Indicator sign)) = indicated-bare sign opcode operands
by_opcode-bare file line opcode operands (Some (NumericList role)) = listed-bare role opcode operands
by_opcode-bare file line opcode operands (Some Include) = included-bare opcode operands

item-bare : (files : List (List ℕ)) (line : LineView) → item_in files (bare line) ≡ item_in files line
item-bare files line = by_opcode-bare (file_number files line.file) line.line line.opcode.text line.operands (opcode_of line.opcode.text)

files-bare : (lines : List LineView) → files_of (map bare lines) ≡ files_of lines
files-bare lines = ap (dedup bytes_eq) (map-map (λ (line : LineView). line.file) bare lines)

items-bare : (files : List (List ℕ)) (lines : List LineView) → items_of files (map bare lines) ≡ items_of files lines
items-bare files [] = refl
items-bare files (line ∷ lines) = λ j. ok_of (item-bare files line j) ++ items-bare files lines j

items_in-bare : (lines : List LineView) → items_in (map bare lines) ≡ items_in lines
items_in-bare lines = (λ j. items_of (files-bare lines j) (map bare lines)) ∙ items-bare (files_of lines) lines

abbrev are_read : List LineView → Bool
are_read lines = list_all (λ line. is_ok (item_in (files_of lines) line)) lines

are_read-bare : (lines : List LineView) → are_read (map bare lines) ≡ are_read lines
are_read-bare lines =
    (λ j. list_all (λ line. is_ok (item_in (files-bare lines j) line)) (map bare lines)) ∙ list_all-map (λ line. is_ok (item_in (files_of lines) line)) bare lines
    ∙ (λ j. list_all (λ line. is_ok (item-bare (files_of lines) line j)) lines)

-- ---- Tables

table_by : List (List ℕ) → List Item → TableView
table_by files items =
    let t = characters_table files items in
    record t {
      rules = in_rank (map (rule_of t) (used_rules items));
      signs = by_sign (cells_indicated items);
    }

table-bare : (lines : List LineView) → table_of (map bare lines) ≡ table_of lines
unfolding table_by
table-bare lines = (λ j. table_by (files-bare lines j) (items_in-bare lines j))

-- ---- Lines that are the same but for places

module _ (lines others : List LineView) (same : map bare others ≡ map bare lines) where
  -- what doesn't depend on places is the same of both
  as-bare : {X : Type 0} (of : List LineView → X) → ((all : List LineView) → of (map bare all) ≡ of all) → of others ≡ of lines
  as-bare of plain = sym (plain others) ∙ ap of same ∙ plain lines

  pub same-table : table_of others ≡ table_of lines
  same-table = as-bare table_of table-bare

  pub good-too : AreGood lines → AreGood others
  good-too good =
      let items : items_in others ≡ items_in lines = as-bare items_in items_in-bare in
      record {
        each = as-bare are_read are_read-bare ∙ good.each;
        once = λ sign. subst (λ (xs : List Item). length (filter (indicates sign) xs) ≤ 1) (sym items) (good.once sign);
        few_characters = subst (λ (t : TableView). length t.characters ≤ 1024) (sym same-table) good.few_characters;
        few_rules = subst (λ (t : TableView). length t.rules ≤ 4096) (sym same-table) good.few_rules;
        known = (λ j. is_text (same-table j) (flat_map named_in (items j))) ∙ good.known;
        apart = (λ j. not (list_any (is_literary (same-table j)) (listed_characters (items j)).nocont)) ∙ good.apart;
      }
