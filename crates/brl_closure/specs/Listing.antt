-- Internal. The steps of a state or of a part that a check lists, and the numbers of the parts.
use Rattle.std.specs.Prelude.{◌≡◌, ℕ, ◌<◌, List, length, Some, slice_get}
use Rattle.brl_closure.specs.Least.{IsLeast}
use Rattle.brl_closure.specs.Refusals.{HasStart, MissesState}
use Rattle.brl_closure.specs.declared.check.fault.AcceptFault.{AcceptFault}
use Rattle.brl_closure.specs.declared.check.fault.AcceptFault.TheVariants.{StateMissing}
use Rattle.brl_pairs.specs.Body.{BodyView}
use Rattle.brl_pairs.specs.Members.{IsMember}
use Rattle.brl_pairs.specs.Runs.{Behaviour, IsListedAt}
use Rattle.brl_pairs.specs.declared.step.Step.{Step}

-- a step of this rule leads to a state that isn't listed, and those before it lead to listed ones
pub record IsFirstMissing {S : Type 0} (states : List S) (listed : List (Step S)) (rule : ℕ) : Type 0 where
  pub place : ℕ
  pub step : Step S
  pub at : IsListedAt listed place step
  pub has_rule : step.rule ≡ rule
  pub missing : IsMember states step.next → ⊥
  pub before : (k : ℕ) (x : Step S) → k < place → IsListedAt listed k x → IsMember states x.next

-- these are the numbers of these parts among those that are kept
pub record AreNumbersOf {P : Type 0} (parts listed : List P) (numbers : List ℕ) : Type 0 where
  pub count : length numbers ≡ length listed
  pub each : (k : ℕ) (part : P) (number : ℕ) → slice_get listed k ≡ Some part → slice_get numbers k ≡ Some number → slice_get parts number ≡ Some part

-- a step leads to a state that isn't listed: the fault names the least state that has such a step,
-- and the least rule of one there
abbrev pub IsStateMissing : {S : Type 0} → Behaviour S → BodyView S → AcceptFault → Type 0
IsStateMissing m body (StateMissing state rule) =
    HasStart m body
    × IsLeast (λ number. (r : ℕ) × MissesState m body number r) state
    × IsLeast (MissesState m body state) rule
IsStateMissing m body fault = ⊥
