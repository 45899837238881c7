-- Internal. The texts of a pair, found step by step back to the start.
use Rattle.std.specs.Prelude.{◌≡◌, ℕ, List, ◌++◌, Some, slice_get, reverse}
use Rattle.brl_pairs.specs.Body.{NumberPair}
use Rattle.brl_pairs.specs.declared.step.Step.{Step}
use Rattle.brl_pairs.specs.Runs.{Behaviour, IsPath, Reaches, cells_of, reads_of}
use Rattle.brl_closure.specs.Trail.{IsSplitOf, TakesStep}

-- the state with this number has a step at this place
pub record HasStepAt {S : Type 0} (m : Behaviour S) (states : List S) (number place : ℕ) : Type 0 where
  pub step : Step S
  pub taken : TakesStep m states number place step

-- the step of the state with this number at this place leads to the other state
pub record IsPlaceTo {S : Type 0} (m : Behaviour S) (states : List S) (number : ℕ) (to : S) (place : ℕ) : Type 0 where
  pub step : Step S
  pub taken : TakesStep m states number place step
  pub next : step.next ≡ to

-- a step of the state with this number leads to the other state
abbrev pub LeadsTo : {S : Type 0} → Behaviour S → List S → ℕ → S → Type 0
LeadsTo m states number to = (place : ℕ) × IsPlaceTo m states number to place

-- some steps lead from this state to the one with this number, and what they read is this text, the
-- last character first
pub record IsTextTo {S : Type 0} (m : Behaviour S) (states : List S) (from : S) (number : ℕ) (text : List ℕ) : Type 0 where
  pub state : S
  pub at : slice_get states number ≡ Some state
  pub path : List (Step S)
  pub reaches : Reaches m from path state
  pub reads : reverse text ≡ reads_of path

-- From the two states of the pair with this number two paths lead to final states, and with the
-- pair's lead they give the same cells. They read these texts, the last character first.
pub record Continues {S : Type 0} (m : Behaviour S) (states : List S) (pairs : List NumberPair) (number : ℕ) (ahead behind : List ℕ) : Type 0 where
  pub pair : NumberPair
  pub at : slice_get pairs number ≡ Some pair
  pub ahead_state : S
  pub behind_state : S
  pub ahead_at : slice_get states pair.ahead ≡ Some ahead_state
  pub behind_at : slice_get states pair.behind ≡ Some behind_state
  pub one : List (Step S)
  pub two : List (Step S)
  pub one_path : IsPath m ahead_state one
  pub two_path : IsPath m behind_state two
  pub same_cells : pair.lead ++ cells_of one ≡ cells_of two
  pub ahead_reads : reverse ahead ≡ reads_of one
  pub behind_reads : reverse behind ≡ reads_of two

-- two paths with the same cells from the next states of two steps that split: those of the state
-- with this number, at these places
pub record SplitContinues {S : Type 0} (m : Behaviour S) (states : List S) (number longer shorter : ℕ) (ahead behind : List ℕ) : Type 0 where
  pub pair : NumberPair
  pub split : IsSplitOf m states number longer shorter pair
  pub one : List (Step S)
  pub two : List (Step S)
  pub one_path : IsPath m split.ahead_step.next one
  pub two_path : IsPath m split.behind_step.next two
  pub same_cells : pair.lead ++ cells_of one ≡ cells_of two
  pub ahead_reads : reverse ahead ≡ reads_of one
  pub behind_reads : reverse behind ≡ reads_of two

-- the run behind of the pair with this number has a step at this place
pub record HasStepBehind {S : Type 0} (m : Behaviour S) (states : List S) (pairs : List NumberPair) (number place : ℕ) : Type 0 where
  pub pair : NumberPair
  pub at : slice_get pairs number ≡ Some pair
  pub step : HasStepAt m states pair.behind place
