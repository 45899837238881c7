-- The rules that the paths of a machine take. The project's own choice.
use Rattle.std.specs.Prelude.{ℕ, ◌≡◌, ◌+◌, ◌<◌, ◌≤◌, Bool, true, false, List, Some, length, slice_get}
use Rattle.std.specs.List.{Contains}
use Rattle.brl_closure.specs.Reached.{AtLeast, Reached, SameState}
use Rattle.brl_pairs.specs.Runs.{Behaviour, IsPath}
use Rattle.brl_pairs.specs.declared.step.Step.{Step}
use Rattle.brl_unused.specs.declared.taken.TakenRules.{TakenRules}
use Rattle.brl_unused.specs.declared.taken.TakenRules.TheVariants.{Limit, Marked}

-- a path from the start to a final state takes a step of this rule
pub record IsTaken {S : Type 0} (m : Behaviour S) (rule : ℕ) : Type 0 where
  pub path : List (Step S)
  pub is_path : IsPath m m.start path
  pub step : Step S
  pub one : Contains path step
  pub of_rule : step.rule ≡ rule

-- of the rules with numbers below this one just those are marked that a path takes
pub record AreTaken {S : Type 0} (m : Behaviour S) (rules : ℕ) (marks : List Bool) : Type 0 where
  pub count : length marks ≡ rules
  pub taken : (rule : ℕ) → slice_get marks rule ≡ Some true → IsTaken m rule
  pub others : (rule : ℕ) → slice_get marks rule ≡ Some false → IsTaken m rule → ⊥

-- more states than the limit are counted, by no more than one, and no more than are reached
pub record IsOverLimit {S : Type 0} (m : Behaviour S) (limit states : ℕ) : Type 0 where
  pub passed : limit < states
  pub by_one : states ≤ limit + 1
  pub reached : AtLeast states SameState (Reached m)

-- what is found of the rules with numbers below this one, with this limit
abbrev pub IsFoundTaken : {S : Type 0} → Behaviour S → ℕ → ℕ → TakenRules → Type 0
IsFoundTaken m rules limit (Marked marks) = AreTaken m rules marks.items
IsFoundTaken m rules limit (Limit states) = IsOverLimit m limit states
