-- Pairs of rules, each with two texts that diverge at it. These definitions are this project's own
-- choice.
use Rattle.std.specs.Prelude.{ℕ, ◌≤◌, All, List}
use Rattle.std.specs.BTreeMap.{BTreeMap, IsOrdered, keys}
use Rattle.std.specs.Ordering.{nat_cmp, ordering_then}
use Rattle.std.specs.declared.cmp.Ordering.{Ordering}
use Rattle.brl_closure.specs.Diverging.{AreTwoPathsAt}
use Rattle.brl_closure.specs.declared.search.texts.Texts.{Texts}
use Rattle.brl_pairs.specs.Runs.{Behaviour}

-- a list of pairs of rules, each with two texts
abbrev pub RuleTexts : Type 0
RuleTexts = BTreeMap (ℕ × ℕ) Texts

-- pairs of rules are compared by their first numbers, and then by their second
abbrev pub compare_rules : ℕ × ℕ → ℕ × ℕ → Ordering
compare_rules x y = ordering_then (nat_cmp x.0 y.0) (nat_cmp x.1 y.1)

-- the pairs of rules of a list
abbrev pub rules_of : RuleTexts → List (ℕ × ℕ)
rules_of list = keys list

-- the pairs of rules ascend, so none is listed twice
abbrev pub IsAscending : RuleTexts → Type 0
IsAscending list = IsOrdered compare_rules list

-- the lesser rule number comes first, and the texts are read by two paths with the same cells that
-- diverge at these rules
pub record IsDivergence {S : Type 0} (m : Behaviour S) (listed : (ℕ × ℕ) × Texts) : Type 0 where
  pub in_order : listed.0.0 ≤ listed.0.1
  pub texts : AreTwoPathsAt m listed.0.0 listed.0.1 listed.1.left.items listed.1.right.items

-- each pair of rules has two texts that diverge at it
abbrev pub AreDivergences : {S : Type 0} → Behaviour S → RuleTexts → Type 0
AreDivergences m list = All (IsDivergence m) list.entries
