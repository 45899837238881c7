-- The kinds of pairs of rules in a list of clashes. A pair has the first kind whose test holds. The
-- project's own choice.
use Rattle.std.specs.Prelude.{ℕ, Bool, false, ◌&&◌, ◌||◌, ◌==◌, if◌then◌else◌, List, Option, Some, None, codes, length, nat_eq, nat_le, nat_lt, not, slice_get, zip}
use Rattle.std.specs.Cmp.Lexicographic.{pointwise}
use Rattle.std.specs.List.{count_by, list_all, list_any}
use Rattle.std.specs.Option.{option_map_or}
use Rattle.brl_clashes.specs.Kinds.{is_of}
use Rattle.brl_clashes.specs.Order.{differing}
use Rattle.brl_clashes.specs.Sets.{FirstsView, is_represented, own_character}
use Rattle.brl_clashes.specs.declared.kind.Kind.TheVariants.{Digit}
use Rattle.brl_clashes.specs.declared.pair_kind.PairKind.{PairKind}
use Rattle.brl_clashes.specs.declared.pair_kind.PairKind.TheVariants as kinds
use Rattle.brl_lines.specs.Visible.{is_unseen}
use Rattle.brl_rules.specs.Places.{letter, share}
use Rattle.brl_rules.specs.TableView.{TableView, info_of}
use Rattle.brl_rules.specs.Text.{classes_of, fold_of}
use Rattle.brl_rules.specs.declared.rule.Rule.{Rule}
use Rattle.brl_search.specs.declared.table_clashes.RuleClash.{RuleClash}

-- ---- What a clash has

-- whether a character is a braille pattern
abbrev pub is_braille : ℕ → Bool
is_braille c = nat_le 0x2800 c && nat_lt c 0x2900

-- whether a character can't be seen, and isn't the blank
abbrev pub is_invisible : ℕ → Bool
is_invisible c = is_unseen c && not (c == 32)

-- whether a text of a clash has such a character
abbrev pub has_one : (ℕ → Bool) → RuleClash → Bool
has_one test x = list_any test x.clash.left || list_any test x.clash.right

-- whether the rule with a number is the own definition of a character that can't be seen
abbrev pub defines_unseen : TableView → ℕ → Bool
defines_unseen t number = option_map_or is_unseen (own_character t number) false

-- whether a text of a clash has a character that can't be seen, or one of its rules defines one
unfoldable pub has_unseen : TableView → RuleClash → Bool
has_unseen t x = has_one is_invisible x || (defines_unseen t x.lesser || defines_unseen t x.greater)

-- whether the texts of a clash have the same length, and this holds of the characters at each place
abbrev pub match_by : (ℕ × ℕ → Bool) → RuleClash → Bool
match_by test x = (length x.clash.left == length x.clash.right) && list_all test (zip x.clash.left x.clash.right)

-- whether the texts of a clash are the same, but for capitals
unfoldable pub differ_in_case : TableView → RuleClash → Bool
differ_in_case t x = match_by (λ pair. fold_of t pair.0 == fold_of t pair.1) x

-- how many digits of a table a text has
abbrev pub digits : TableView → List ℕ → ℕ
digits t text = count_by (is_of t Digit) text

-- whether one text of a clash has more digits than the other
unfoldable pub differ_in_digits : TableView → RuleClash → Bool
differ_in_digits t x = not (digits t x.clash.left == digits t x.clash.right)

-- whether both texts of a clash begin with the same digit
unfoldable pub begin_with_digit : TableView → RuleClash → Bool
begin_with_digit t x =
    option_map_or (λ c. option_map_or (λ d. (c == d) && is_of t Digit c) (slice_get x.clash.right 0) false) (slice_get x.clash.left 0) false

-- whether two characters of a table have the same cells, as small letters
abbrev pub have_same_cells : TableView → ℕ × ℕ → Bool
have_same_cells t pair =
    option_map_or (λ i. option_map_or (λ j. pointwise nat_eq i.cells j.cells) (info_of t (fold_of t pair.1)) false) (info_of t (fold_of t pair.0)) false

-- whether the characters of the texts of a clash have the same cells, each the one at its place
unfoldable pub match_in_cells : TableView → RuleClash → Bool
match_in_cells t x = match_by (have_same_cells t) x

-- whether a character of a table is a letter
abbrev pub is_letter : TableView → ℕ → Bool
is_letter t c = share (classes_of t c) letter

-- whether two characters are the same, or both letters of a table
abbrev pub are_letters_or_same : TableView → ℕ × ℕ → Bool
are_letters_or_same t pair = (pair.0 == pair.1) || (is_letter t pair.0 && is_letter t pair.1)

-- whether the texts of a clash have the same length and differ in one or two letters alone
unfoldable pub differ_in_letters : TableView → RuleClash → Bool
differ_in_letters t x =
    nat_le (differing x.clash.left x.clash.right) 2 && match_by (are_letters_or_same t) x

-- ---- The kind of a clash

-- the kind by the rules alone: two rules, with the same cells or not; two own definitions; or one
abbrev pub kind_by_rules : Option Rule → Option Rule → PairKind
kind_by_rules (Some r) (Some s) = if pointwise nat_eq r.cells s.cells then kinds.Rules else kinds.Begins
kind_by_rules None None = kinds.Several
kind_by_rules r s = kinds.Word

-- the kind of a clash whose pair of rules no other one represents
abbrev pub own_kind : TableView → RuleClash → PairKind
own_kind t x =
    if differ_in_digits t x then (if begin_with_digit t x then kinds.AsDigit else kinds.Number)
    else if match_in_cells t x then kinds.Cells
    else if differ_in_letters t x then kinds.Alike
    else kind_by_rules (slice_get t.rules x.lesser) (slice_get t.rules x.greater)

-- The kind of a clash of a table, where pairs of rules are listed: another pair represents its own,
-- that of the first characters of sets, or that of small letters; its texts have what a reader
-- can't see; or what its texts and its rules are.
abbrev pub kind_of : TableView → FirstsView → List (ℕ × ℕ) → RuleClash → PairKind
kind_of t firsts listed x =
    if is_represented t firsts.own listed x then kinds.Sets
    else if has_one is_braille x then kinds.Braille
    else if has_unseen t x then kinds.Unseen
    else if differ_in_case t x then kinds.Case
    else if is_represented t firsts.small listed x then kinds.Again
    else own_kind t x

-- ---- Their names

-- the place of a kind among all
abbrev pub number_of : PairKind → ℕ
number_of kinds.Alike = 0
number_of kinds.Rules = 1
number_of kinds.Cells = 2
number_of kinds.Case = 3
number_of kinds.Several = 4
number_of kinds.Begins = 5
number_of kinds.Word = 6
number_of kinds.AsDigit = 7
number_of kinds.Number = 8
number_of kinds.Sets = 9
number_of kinds.Again = 10
number_of kinds.Unseen = 11
number_of kinds.Braille = 12

-- whether two kinds are the same
abbrev pub is_kind : PairKind → PairKind → Bool
is_kind kind other = number_of kind == number_of other

-- the word by which a kind is asked for
abbrev pub key_of : PairKind → List ℕ
key_of kinds.Alike = codes "alike"
key_of kinds.Rules = codes "rules"
key_of kinds.Cells = codes "cells"
key_of kinds.Case = codes "case"
key_of kinds.Several = codes "several"
key_of kinds.Begins = codes "begins"
key_of kinds.Word = codes "word"
key_of kinds.AsDigit = codes "asdigit"
key_of kinds.Number = codes "number"
key_of kinds.Sets = codes "sets"
key_of kinds.Again = codes "again"
key_of kinds.Unseen = codes "unseen"
key_of kinds.Braille = codes "braille"

-- what the pairs of a kind are
abbrev pub title_of : PairKind → List ℕ
title_of kinds.Alike = codes "one or two letters differ"
title_of kinds.Rules = codes "two rules with the same cells"
title_of kinds.Cells = codes "characters with the same cells"
title_of kinds.Case = codes "capitals alone differ"
title_of kinds.Several = codes "a character with the cells of several"
title_of kinds.Begins = codes "a rule begins with the cells of another"
title_of kinds.Word = codes "a rule with the cells of other texts"
title_of kinds.AsDigit = codes "read as digits after a digit"
title_of kinds.Number = codes "a number with the cells of other texts"
title_of kinds.Sets = codes "of other characters of the sets"
title_of kinds.Again = codes "of capitals, as of their small letters"
title_of kinds.Unseen = codes "with characters that can't be seen"
title_of kinds.Braille = codes "with braille patterns"
