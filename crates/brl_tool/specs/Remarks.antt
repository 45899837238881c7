-- The lines of a survey on rules that are there again. The project's own choice.
use Rattle.std.specs.Prelude.{ℕ, ◌≡◌, ◌≢◌, ◌<◌, List, ◌++◌, Some, codes, slice_get}
use Rattle.brl_lines.specs.Tokens.{LineView}
use Rattle.brl_report.specs.Rules.{rule_words}
use Rattle.brl_rules.specs.TableView.{TableView}
use Rattle.brl_rules.specs.declared.rule.Rule.{Rule}

-- two rules are for the same characters at the same places
abbrev pub AreAlike : Rule → Rule → Type 0
AreAlike other rule = (other.chars ≡ rule.chars) × (other.place ≡ rule.place)

-- of the rules before a number none is like this one
abbrev pub NoneIsLike : List Rule → Rule → ℕ → Type 0
NoneIsLike rules rule bound = (number : ℕ) (other : Rule) → number < bound → slice_get rules number ≡ Some other → AreAlike other rule → ⊥

-- the rule with a number is the first that is like this one
abbrev pub IsFirstAlike : List Rule → Rule → ℕ → Type 0
IsFirstAlike rules rule first = ((other : Rule) × (slice_get rules first ≡ Some other) × AreAlike other rule) × NoneIsLike rules rule first

-- a rule repeats the first that is like it: that one has other cells
abbrev pub Repeats : List Rule → Rule → ℕ → Type 0
Repeats rules rule first = IsFirstAlike rules rule first × ((other : Rule) × (slice_get rules first ≡ Some other) × (other.cells ≢ rule.cells))

-- what the rule with a number says, after a mark
abbrev pub rule_after : List ℕ → TableView → List LineView → ℕ → List ℕ
rule_after mark t lines number = mark ++ rule_words t lines number

-- the line on a rule that repeats another, which is used in its place
abbrev pub remark_line : TableView → List LineView → ℕ → ℕ → List ℕ
remark_line t lines first number = rule_after (codes "remark RuleAgain ") t lines number ++ (rule_after (codes " / ") t lines first ++ codes "\n")
