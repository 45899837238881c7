-- How a section of a list of clashes is shown by the kinds of its pairs of rules. The project's own
-- choice.
use Rattle.std.specs.Prelude.{ℕ, ◌≡◌, ◌-◌, if◌then◌else◌, List, [], ◌∷◌, ◌++◌, codes, drop, flat_map, length, map, nat_eq, nat_lt, take}
use Rattle.std.specs.Fmt.{decimal}
use Rattle.std.specs.List.{count_by, filter, repeat}
use Rattle.std.specs.List.Sorted.{IsPermutation, IsSorted}
use Rattle.brl_clashes.specs.Order.{suspicion_cmp}
use Rattle.brl_clashes.specs.PairKinds.{is_kind, key_of, kind_of, title_of}
use Rattle.brl_clashes.specs.Sets.{FirstsView}
use Rattle.brl_clashes.specs.declared.kind.Kind.{Kind}
use Rattle.brl_clashes.specs.declared.kind.Kind.TheVariants as characters
use Rattle.brl_clashes.specs.declared.pair_kind.PairKind.{PairKind}
use Rattle.brl_clashes.specs.declared.pair_kind.PairKind.TheVariants.{Alike, Rules, Cells, Case, Several, Begins, Word, AsDigit, Number, Sets, Again, Unseen, Braille}
use Rattle.brl_rules.specs.TableView.{TableView}
use Rattle.brl_search.specs.declared.table_clashes.RuleClash.{RuleClash}

-- ---- Which kinds have a line

-- the kinds that may have a line with examples, those first that are wrong most often
abbrev pub example_kinds : List PairKind
example_kinds = Alike ∷ Rules ∷ Cells ∷ Case ∷ Several ∷ Begins ∷ Word ∷ AsDigit ∷ Number ∷ []

-- the kinds that have no examples: other pairs represent theirs, or a reader can't see what differs
abbrev pub hidden_kinds : List PairKind
hidden_kinds = Sets ∷ Again ∷ Unseen ∷ Braille ∷ []

-- all kinds
abbrev pub all_kinds : List PairKind
all_kinds = example_kinds ++ hidden_kinds

-- how many of these kinds are a kind
abbrev pub count_of : List PairKind → PairKind → ℕ
count_of kinds kind = count_by (is_kind kind) kinds

-- the kinds among some that these pairs are of
abbrev pub present : List PairKind → List PairKind → List PairKind
present kinds some = filter (λ kind. nat_lt 0 (count_of kinds kind)) some

-- the most kinds that have a line in the section of a kind of characters
abbrev pub most_kinds : Kind → ℕ
most_kinds characters.Letter = 9
most_kinds characters.Digit = 9
most_kinds characters.Capital = 4
most_kinds characters.Mark = 4
most_kinds characters.Other = 0

-- the kinds that have a line in a section whose pairs are of these kinds
abbrev pub lined : Kind → List PairKind → List PairKind
lined section kinds = take (most_kinds section) (present kinds example_kinds)

-- the kinds with examples for which there is no line
abbrev pub unlined : Kind → List PairKind → List PairKind
unlined section kinds = drop (most_kinds section) (present kinds example_kinds)

-- ---- The lines

-- a number at the end of a column of seven characters
abbrev pub number_column : ℕ → List ℕ
number_column number = repeat (7 - length (decimal number)) (codes " ") ++ decimal number

-- a kind and its examples, which are any text
pub record KindLineView : Type 0 where
  pub kind : PairKind
  pub examples : List ℕ

-- the line of a kind: how many of these kinds it is, what its pairs are, and examples
abbrev pub kind_line : List PairKind → KindLineView → List ℕ
kind_line kinds line =
    number_column (count_of kinds line.kind) ++ (codes "  " ++ (title_of line.kind ++ (codes ": " ++ (line.examples ++ codes "\n"))))

-- how many of these kinds are a kind, and its key
abbrev pub key_count : List PairKind → PairKind → List ℕ
key_count kinds kind = codes "  " ++ (decimal (count_of kinds kind) ++ (codes " " ++ key_of kind))

-- the line of kinds that have none of their own; there is none where there are no such kinds
abbrev pub counts_line : List PairKind → List PairKind → List ℕ
counts_line kinds others = if nat_eq (length others) 0 then [] else codes "       " ++ flat_map (key_count kinds) others ++ codes "\n"

-- the lines of pairs of these kinds in a section: those of kinds with examples, and of the others
abbrev pub IsByKinds : Kind → List PairKind → List ℕ → Type 0
IsByKinds section kinds text =
    (lines : List KindLineView) × (map (λ line. line.kind) lines ≡ lined section kinds)
    × (text ≡ flat_map (kind_line kinds) lines ++ counts_line kinds (unlined section kinds) ++ counts_line kinds (present kinds hidden_kinds))

-- The lines of a section by the kinds of its new clashes, where pairs of rules are listed, the most
-- suspicious clashes first. The number of a kind is that of all of its pairs.
abbrev pub AreKindLines : TableView → FirstsView → List (ℕ × ℕ) → Kind → List RuleClash → List ℕ → Type 0
AreKindLines t firsts listed section new text =
    (sorted : List RuleClash) × IsPermutation new sorted × IsSorted suspicion_cmp sorted
    × IsByKinds section (map (kind_of t firsts listed) sorted) text
