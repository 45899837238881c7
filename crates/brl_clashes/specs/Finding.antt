-- Internal. What is worked out before a section is found, and what is known then.
use Rattle.std.specs.Prelude.{ℕ, ◌≡◌, ◌≤◌, All, List, Option, None, Some, length}
use Rattle.brl_clashes.specs.Kinds.{kept, left_out_in, section_kinds}
use Rattle.brl_clashes.specs.Showing.{Asked, asked_of, firsts_in}
use Rattle.brl_clashes.specs.declared.list_request.Plan.{Plan}
use Rattle.brl_search.specs.Clashes.{AreClashes, IsRuleClash}
use Rattle.brl_search.specs.declared.table_clashes.ClashList.{ClashList}
use Rattle.brl_search.specs.declared.table_clashes.RuleClash.{RuleClash}

-- these are the characters that aren't left out, the kinds of these, and what represents others
pub record IsPlan (plan : Plan) : Type 0 where
  pub kept : plan.kept.now ≡ kept plan.asked.table.now plan.asked.left_out.now
  pub kinds : plan.kinds.now ≡ section_kinds plan.asked.table.now plan.asked.left_out.now
  pub firsts : plan.firsts.now ≡ firsts_in (asked_of plan.asked)

-- this is the list of all texts
abbrev pub IsOfAll : Asked → ClashList → Type 0
IsOfAll asked all = AreClashes asked.left_out asked.table asked.limit all

-- so it is where it is known
abbrev pub IfKnown : Asked → Option ClashList → Type 0
IfKnown asked None = Unit {0}
IfKnown asked (Some all) = IsOfAll asked all

-- what is known before a section is found, by its number: clashes of texts of this section, each at
-- a pair of rules, and no more than the limit lets it list
pub record AreKnownAt (asked : Asked) (place : ℕ) (known : List RuleClash) : Type 0 where
  pub each : All (IsRuleClash (left_out_in asked.table asked.left_out place) asked.table) known
  pub few : length known ≤ asked.limit
