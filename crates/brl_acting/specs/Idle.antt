-- Rules and definitions that can't act on texts over an alphabet, and tables without some of them.
-- The needs are those of `Acting`: a rule needs each of its characters. But what `Acting` claims of
-- liblouis, these definitions say of tables as brl itself translates by them, where it is proved.
use Rattle.std.specs.Prelude.{ℕ, ◌≡◌, ◌⊎◌, ◌||◌, All, Bool, false, List, [], IsTrue, filter, map, nat_eq}
use Rattle.std.specs.List.{list_all, list_any}
use Rattle.brl_lines.specs.Tokens.{LineView}
use Rattle.brl_rules.specs.declared.rule.Info.{Info}
use Rattle.brl_rules.specs.declared.rule.Rule.{Rule}
use Rattle.brl_rules.specs.TableView.{TableView}
use Rattle.brl_rules.specs.Text.{fold_of}
use Rattle.brl_rules.specs.Translation.{translation}
use Rattle.brl_forward.specs.Faults.{first_unknown}
use Rattle.brl_acting.specs.Capitals.{seconds}
use Rattle.brl_acting.specs.Sets.{is_in}
use Rattle.brl_acting.specs.Words.{TableLineView}

-- ---- What can't act

-- a text over an alphabet
abbrev pub is_over : List ℕ → List ℕ → Bool
is_over alphabet text = list_all (is_in alphabet) text

-- whether a character is to stand for another one in a table: it is that one, or is folded to it,
-- as a capital is to its small letter
abbrev pub stands_for : TableView → ℕ → ℕ → Bool
stands_for t c other = nat_eq c other || nat_eq (fold_of t c) other

-- characters of an alphabet stand for this one
abbrev pub is_stood_for : TableView → List ℕ → ℕ → Bool
is_stood_for t alphabet c = list_any (λ a. stands_for t a c) alphabet

-- a rule of these characters can't act: for one of them no characters of the alphabet stand
abbrev pub IsIdle : TableView → List ℕ → List ℕ → Type 0
IsIdle t alphabet chars = list_all (is_stood_for t alphabet) chars ≡ false

-- ---- Tables without some rules and definitions

-- a table with just those of its rules that pass a test
abbrev pub with_rules : (Rule → Bool) → TableView → TableView
with_rules keeps t = record t { rules = filter keeps t.rules }

-- each rule of a table that doesn't pass a test can't act
abbrev pub DropsIdleRules : List ℕ → TableView → (Rule → Bool) → Type 0
DropsIdleRules alphabet t keeps = All (λ rule. keeps rule ≡ false → IsIdle t alphabet rule.chars) t.rules

-- a table with the definitions of just those of its characters that pass a test
abbrev pub with_characters : (ℕ → Bool) → TableView → TableView
with_characters keeps t = record t { characters = filter (λ entry. keeps entry.0) t.characters }

-- each character of a table that doesn't pass a test is outside the alphabet
abbrev pub DropsCharactersOutside : List ℕ → TableView → (ℕ → Bool) → Type 0
DropsCharactersOutside alphabet t keeps = All (λ entry. keeps entry.0 ≡ false → is_in alphabet entry.0 ≡ false) t.characters

-- what cells and faults come of: all of a table but the numbers of characters, the places of lines,
-- and notices, which change where a line is taken out
abbrev pub essence_of_info : Info → Info
essence_of_info info = record info { number = 0; file = 0; line = 0 }

abbrev pub essence_of_rule : Rule → Rule
essence_of_rule rule = record rule { file = 0; line = 0 }

abbrev pub essence : TableView → TableView
essence t = record {
  characters = map (λ entry. (entry.0, essence_of_info entry.1)) t.characters;
  rules = map essence_of_rule t.rules;
  signs = t.signs;
  files = [];
  notices = [];
}

-- a table is what is left of another one without some rules and definitions that can't act: but for
-- numbers and places it has just those that pass two tests
pub record IsWithoutIdle (alphabet : List ℕ) (t fewer : TableView) : Type 0 where
  pub keeps_rule : Rule → Bool
  pub keeps_character : ℕ → Bool
  pub rules : DropsIdleRules alphabet t keeps_rule
  pub definitions : DropsCharactersOutside alphabet t keeps_character
  pub left : essence fewer ≡ essence (with_rules keeps_rule (with_characters keeps_character t))

-- ---- What they make of texts

-- two tables make the same of each text over an alphabet: the same cells, and the same fault, which
-- names the first character without a definition
pub record AreAlikeOver (alphabet : List ℕ) (t other : TableView) : Type 0 where
  pub cells : (text : List ℕ) → IsTrue (is_over alphabet text) → translation other text ≡ translation t text
  pub faults : (text : List ℕ) → IsTrue (is_over alphabet text) → first_unknown other text ≡ first_unknown t text

-- ---- The needs of lines

-- pairs of a capital and its small letter, as lines give them, have all by which a table folds
abbrev pub HasFolds : List (ℕ × ℕ) → TableView → Type 0
HasFolds pairs t = (c : ℕ) → (fold_of t c ≡ c) ⊎ IsTrue (is_in (seconds pairs (nat_eq c)) (fold_of t c))

-- the lines of a whole table that are kept, which alone define a table
abbrev pub kept_lines : List TableLineView → List LineView
kept_lines lines = map (λ line. line.line) (filter (λ line. line.kept) lines)
