-- Sets of characters that a table treats as one: with the same cells, classes and flags, and in no
-- rule. In a list of clashes the first of a set represents the others. The project's own choice.
use Rattle.std.specs.Prelude.{ℕ, ◌-◌, Bool, false, Option, None, ◌&&◌, ◌||◌, ◌==◌, if◌then◌else◌, List, [], flat_map, length, map, nat_eq, nat_le, nat_lt, not, slice_get}
use Rattle.std.specs.Bool.{beq}
use Rattle.std.specs.Cmp.Lexicographic.{pointwise}
use Rattle.std.specs.List.{count_by, filter, find, list_any}
use Rattle.std.specs.Option.{option_map_or, unwrap_or}
use Rattle.brl_clashes.specs.Kinds.{kept}
use Rattle.brl_without.specs.Alphabet.{table_characters}
use Rattle.brl_clashes.specs.ListedPairs.{has_pair, is_pair}
use Rattle.brl_report.specs.Rules.{own_number}
use Rattle.brl_rules.specs.TableView.{TableView, info_of}
use Rattle.brl_rules.specs.Text.{fold_of}
use Rattle.brl_rules.specs.declared.rule.Info.{Info}
use Rattle.brl_search.specs.declared.table_clashes.RuleClash.{RuleClash}

-- ---- The sets

-- the characters of a table's rules
abbrev pub rule_characters : TableView → List ℕ
rule_characters t = flat_map (λ rule. rule.chars) t.rules

-- whether no rule has a character, which is its own fold
abbrev pub is_plain : TableView → ℕ → Bool
is_plain t c = not (list_any (nat_eq c) (rule_characters t)) && (fold_of t c == c)

-- the plain characters of a table that aren't left out
abbrev pub plain : TableView → List ℕ → List ℕ
plain t left_out = filter (is_plain t) (kept t left_out)

-- whether two infos have the same cells, classes and flags
abbrev pub have_same : Info → Info → Bool
have_same x y =
    pointwise nat_eq x.cells y.cells && (x.classes.0 == y.classes.0) && beq x.literary y.literary && beq x.mode y.mode && beq x.nocont y.nocont

-- whether two characters have infos with the same cells, classes and flags
abbrev pub are_equal : TableView → ℕ → ℕ → Bool
are_equal t c d = option_map_or (λ x. option_map_or (have_same x) (info_of t d) false) (info_of t c) false

-- the set of a character among these
abbrev pub set_among : TableView → List ℕ → ℕ → List ℕ
set_among t characters c = filter (are_equal t c) characters

-- the first of these that is in the set of a character, and where none is, the character
abbrev pub first_among : TableView → List ℕ → ℕ → ℕ
first_among t characters c = unwrap_or (find (are_equal t c) characters) c

-- whether a character is the first of a set of two or more of these
unfoldable pub opens_set : TableView → List ℕ → ℕ → Bool
opens_set t characters c = nat_lt 1 (count_by (are_equal t c) characters) && (first_among t characters c == c)

-- the characters that are the first of a set of two or more
abbrev pub openers : TableView → List ℕ → List ℕ
openers t characters = filter (opens_set t characters) characters

-- the sets of two or more characters of a table
abbrev pub sets_of_table : TableView → List (List ℕ)
sets_of_table t = map (set_among t (plain t [])) (openers t (plain t []))

-- ---- Rules that represent others

-- the character that represents one: where it is one of these, the first of its set
abbrev pub first_of_set : TableView → List ℕ → ℕ → ℕ
first_of_set t characters c = if list_any (nat_eq c) characters then first_among t characters c else c

-- the number of the own definition that represents that of a character
abbrev pub first_number : TableView → List ℕ → ℕ → ℕ
first_number t characters c = own_number t (first_of_set t characters c)

-- for each character of a table, by its number, the own definition that represents its own, and the
-- one that represents that of its small letter
pub record FirstsView : Type 0 where
  pub own : List ℕ
  pub small : List ℕ

-- these, where some characters have sets
abbrev pub firsts_of : TableView → List ℕ → FirstsView
firsts_of t characters = record {
  own = map (first_number t characters) (table_characters t);
  small = map (λ c. first_number t characters (fold_of t c)) (table_characters t);
}

-- the character whose own definition has a number
abbrev pub own_character : TableView → ℕ → Option ℕ
own_character t number = if nat_le (length t.rules) number then slice_get (table_characters t) (number - length t.rules) else None

-- the rule that represents the one with a number: for the own definition of a character the one
-- that a list has for the character
abbrev pub representative : TableView → List ℕ → ℕ → ℕ
representative t firsts number =
    if nat_le (length t.rules) number then unwrap_or (slice_get firsts (number - length t.rules)) number else number

-- a pair of rules with the lesser number first
abbrev pub in_order : ℕ → ℕ → ℕ × ℕ
in_order r s = if nat_le r s then (r, s) else (s, r)

-- Whether another line represents the clash at two rules, which these two represent: that of the
-- set of two characters, or that of the pair of these two, which is listed.
abbrev pub is_folded : List (ℕ × ℕ) → ℕ × ℕ → ℕ × ℕ → Bool
is_folded listed rules first =
    not (is_pair rules first) && ((not (rules.0 == rules.1) && (first.0 == first.1)) || has_pair listed (in_order first.0 first.1))

-- whether another line represents a clash of a table, where these own definitions represent
-- others
abbrev pub is_represented : TableView → List ℕ → List (ℕ × ℕ) → RuleClash → Bool
is_represented t firsts listed clash =
    is_folded listed (clash.lesser, clash.greater) (representative t firsts clash.lesser, representative t firsts clash.greater)
