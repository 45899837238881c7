-- The columns of a list of clashes for programs. The project's own choice.
use Rattle.std.specs.Prelude.{ℕ, List, ◌++◌, Option, Some, codes, slice_get}
use Rattle.std.specs.Fmt.{decimal}
use Rattle.std.specs.Option.{option_and_then, option_map, option_map_or}
use Rattle.brl_cells.specs.Dots.{spelling}
use Rattle.brl_clashes.specs.PairKinds.{key_of, kind_of}
use Rattle.brl_clashes.specs.Sets.{FirstsView, own_character}
use Rattle.brl_clashes.specs.declared.kind.Kind.{Kind}
use Rattle.brl_clashes.specs.declared.kind.Kind.TheVariants.{Letter, Digit, Capital, Mark, Other}
use Rattle.brl_clashes.specs.declared.pair_kind.PairKind.{PairKind}
use Rattle.brl_lines.specs.Tokens.{LineView}
use Rattle.brl_report.specs.ClashLine.{spelled_after}
use Rattle.brl_report.specs.Place.{file_name}
use Rattle.brl_report.specs.Rules.{rule_words}
use Rattle.brl_rules.specs.TableView.{TableView, info_of}
use Rattle.brl_search.specs.declared.table_clashes.RuleClash.{RuleClash}

-- the texts of the section of a kind
abbrev pub kind_name : Kind → List ℕ
kind_name Letter = codes "small letters"
kind_name Digit = codes "with digits"
kind_name Capital = codes "with capitals"
kind_name Mark = codes "with marks"
kind_name Other = codes "all characters"

-- the names of the columns
abbrev pub column_names : List ℕ
column_names = codes "section\tkind\tleft\tright\tcells\tfile\tline\trule\tfile2\tline2\trule2\n"

-- the number of the file and the line of the own definition with a number
abbrev pub own_source : TableView → ℕ → Option (ℕ × ℕ)
own_source t number = option_map (λ info. (info.file, info.line)) (option_and_then (info_of t) (own_character t number))

-- the number of the file and the line by which the rule with a number is defined
abbrev pub source_of : TableView → ℕ → Option (ℕ × ℕ)
source_of t number = option_map_or (λ rule. Some (rule.file, rule.line)) (slice_get t.rules number) (own_source t number)

-- the columns of a place: the file's name, and the line
abbrev pub place_columns : TableView → ℕ × ℕ → List ℕ
place_columns t source = file_name t source.0 ++ (codes "\t" ++ decimal source.1)

-- the columns of a rule: its place, and what it says
abbrev pub rule_columns : TableView → List LineView → ℕ → List ℕ
rule_columns t lines number =
    codes "\t" ++ (option_map_or (place_columns t) (source_of t number) (codes "\t") ++ (codes "\t" ++ rule_words t lines number))

-- a text in a column, in which what can't be seen is spelled
abbrev pub text_column : List ℕ → List ℕ
text_column text = spelled_after (codes "\t") text

-- the columns of a section and of a kind
abbrev pub kind_columns : Kind → PairKind → List ℕ
kind_columns section kind = kind_name section ++ (codes "\t" ++ key_of kind)

-- the columns of the texts of a clash, and of their cells
abbrev pub clash_columns : RuleClash → List ℕ
clash_columns x = text_column x.clash.left ++ (text_column x.clash.right ++ (codes "\t" ++ spelling x.clash.cells))

-- the columns of the two rules of a clash, the one with the lesser number first, and the end of the
-- line
abbrev pub rules_columns : TableView → List LineView → RuleClash → List ℕ
rules_columns t lines x = rule_columns t lines x.lesser ++ (rule_columns t lines x.greater ++ codes "\n")

-- the line of a clash: its section, its kind, its texts, their cells in dots, and its two rules
abbrev pub column_line : TableView → List LineView → FirstsView → List (ℕ × ℕ) → Kind → RuleClash → List ℕ
column_line t lines firsts listed kind x = kind_columns kind (kind_of t firsts listed x) ++ (clash_columns x ++ rules_columns t lines x)
