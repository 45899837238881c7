-- How a file of pairs of rules names them. The project's own choice.
use Rattle.std.specs.Prelude.{ℕ, List, [], ◌++◌, codes, flat_map, get_or, map}
use Rattle.std.specs.List.{filter}
use Rattle.std.specs.Str.{bytes_eq}
use Rattle.brl_lines.specs.Tokens.{LineView}
use Rattle.brl_report.specs.Rules.{rule_numbers, rule_words}
use Rattle.brl_rules.specs.TableView.{TableView}

-- what each rule of a table of these lines says, by its number
abbrev pub wording : TableView → List LineView → List (List ℕ)
wording t lines = map (rule_words t lines) (rule_numbers t)

-- what the rule with a number says, of what each says; nothing where no rule has the number
abbrev pub said : List (List ℕ) → ℕ → List ℕ
said words number = get_or words number []

-- what is between two rules
abbrev pub between : List ℕ
between = codes " / "

-- the line of a pair of rules: what the one says, and what the other says
abbrev pub pair_line : List (List ℕ) → ℕ × ℕ → List ℕ
pair_line words pair = said words pair.0 ++ (between ++ said words pair.1)

-- the pairs of a rule and one of these whose line this is
abbrev pub pairs_with : List (List ℕ) → List ℕ → List ℕ → ℕ → List (ℕ × ℕ)
pairs_with words numbers line r = map (λ s. (r, s)) (filter (λ s. bytes_eq line (pair_line words (r, s))) numbers)

-- the pairs of these rules whose line this is: all of them, where several rules say the same
abbrev pub pairs_of_line : List (List ℕ) → List ℕ → List ℕ → List (ℕ × ℕ)
pairs_of_line words numbers line = flat_map (pairs_with words numbers line) numbers

-- the line of a pair with its end
abbrev pub whole_line : List (List ℕ) → ℕ × ℕ → List ℕ
whole_line words pair = pair_line words pair ++ codes "\n"

-- the text of a file that names these pairs, a line for each
abbrev pub pairs_text : List (List ℕ) → List (ℕ × ℕ) → List ℕ
pairs_text words pairs = flat_map (whole_line words) pairs
