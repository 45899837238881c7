-- The rules of a table that texts use. These are this project's own choice.
use Rattle.std.specs.Prelude.{ℕ, ◌≡◌, ◌+◌, ◌<◌, ◌⊎◌, IsTrue, List, length}
use Rattle.std.specs.List.{Contains}
use Rattle.brl_forward.specs.Trace.{trace_of}
use Rattle.brl_forward.specs.declared.steps.Traced.{Traced}
use Rattle.brl_rules.specs.TableView.{TableView}
use Rattle.brl_rules.specs.Text.{is_text}
use Rattle.brl_search.specs.Searched.{machine_of}
use Rattle.brl_search.specs.declared.unused.UnusedRules.{UnusedRules}
use Rattle.brl_search.specs.declared.unused.UnusedRules.TheVariants.{Limit, Unused}
use Rattle.brl_unused.specs.Graph.{AreAscending}
use Rattle.brl_unused.specs.Taken.{IsOverLimit}
use Rattle.brl_without.specs.LeftOut.{uses_none}
use Rattle.brl_without.specs.Without.{without}

-- the translation of a text over the table's characters but for those that are left out takes a
-- step of the rule with this number
pub record IsUsed (left_out : List ℕ) (t : TableView) (number : ℕ) : Type 0 where
  pub text : List ℕ
  pub is_text : IsTrue (is_text t text)
  pub is_without : IsTrue (uses_none left_out text)
  pub step : Traced
  pub one : Contains (trace_of t text) step
  pub of_rule : step.rule ≡ number

-- a rule of the table has this number: one in rank or, after these, the own definition of a
-- character
abbrev pub IsRule : TableView → ℕ → Type 0
IsRule t number = number < length t.rules + length t.characters

-- These are the numbers of the rules that no text uses, ascending. Of each other rule there is a
-- text that uses it.
pub record AreUnused (left_out : List ℕ) (t : TableView) (numbers : List ℕ) : Type 0 where
  pub ascending : AreAscending numbers
  pub rules : (number : ℕ) → Contains numbers number → IsRule t number
  pub unused : (number : ℕ) → Contains numbers number → IsUsed left_out t number → ⊥
  pub others : (number : ℕ) → IsRule t number → Contains numbers number ⊎ IsUsed left_out t number

-- what is found of this table, without these characters, with this limit
abbrev pub AreUnusedRules : List ℕ → TableView → ℕ → UnusedRules → Type 0
AreUnusedRules left_out t limit (Unused numbers) = AreUnused left_out t numbers.items
AreUnusedRules left_out t limit (Limit states) = IsOverLimit (without left_out (machine_of t)) limit states
