-- Why a body is refused: what keeps its states and pairs from being closed. The project's own
-- choice.
use Rattle.std.specs.Prelude.{ℕ, ◌≡◌, IsTrue, [], min, max, Some, slice_get}
use Rattle.brl_closure.specs.Least.{IsLeast}
use Rattle.brl_pairs.specs.Sets.{pair_at, sets_of}
use Rattle.brl_closure.specs.declared.check.fault.AcceptFault.{AcceptFault}
use Rattle.brl_closure.specs.declared.check.fault.AcceptFault.TheVariants.{NoStart, StateMissing, SplitMissing, PairMissing, BothEnd}
use Rattle.brl_pairs.specs.Body.{BodyView}
use Rattle.brl_pairs.specs.Pairs.{HasPair, Follows, Splits}
use Rattle.brl_pairs.specs.Runs.{Behaviour, IsListed}
use Rattle.brl_pairs.specs.declared.step.Pair.{Pair}
use Rattle.brl_pairs.specs.declared.step.Step.{Step}

-- a step of this rule leads from the state with this number to a state that isn't listed
pub record MissesState {S : Type 0} (m : Behaviour S) (body : BodyView S) (number rule : ℕ) : Type 0 where
  pub state : S
  pub is_state : slice_get body.states number ≡ Some state
  pub step : Step S
  pub listed : IsListed (m.steps state) step
  pub has_rule : step.rule ≡ rule
  pub missing : (sets_of body).has_state step.next → ⊥

-- two steps of these rules from the state with this number split into a pair that isn't listed
pub record MissesSplit {S : Type 0} (m : Behaviour S) (body : BodyView S) (number lesser greater : ℕ) : Type 0 where
  pub state : S
  pub is_state : slice_get body.states number ≡ Some state
  pub pair : Pair S
  pub split : Splits (m.steps state) pair
  pub has_lesser : min split.longer.rule split.shorter.rule ≡ lesser
  pub has_greater : max split.longer.rule split.shorter.rule ≡ greater
  pub missing : HasPair (sets_of body) pair → ⊥

-- a step of this rule leads from the pair with this number to a pair that isn't listed
pub record MissesPair {S : Type 0} (m : Behaviour S) (body : BodyView S) (number rule : ℕ) : Type 0 where
  pub pair : Pair S
  pub is_pair : pair_at body number ≡ Some pair
  pub next : Pair S
  pub moves : Follows m pair next
  pub has_rule : moves.step.rule ≡ rule
  pub missing : HasPair (sets_of body) next → ⊥

-- the pair with this number has an empty lead, and both of its states are final
pub record HasTwoEnds {S : Type 0} (m : Behaviour S) (body : BodyView S) (number : ℕ) : Type 0 where
  pub pair : Pair S
  pub is_pair : pair_at body number ≡ Some pair
  pub no_lead : pair.lead ≡ []
  pub ahead : IsTrue (m.ends pair.ahead)
  pub behind : IsTrue (m.ends pair.behind)

module _ {S : Type 0} (m : Behaviour S) (body : BodyView S) where
  -- the start is one of the states
  abbrev pub HasStart : Type 0
  HasStart = (sets_of body).has_state m.start

  -- each step from one of the states leads to one of them
  abbrev pub MissesNoState : Type 0
  MissesNoState = (number rule : ℕ) → MissesState m body number rule → ⊥

  -- each pair to which a step leads from one of the pairs is listed
  abbrev pub MissesNoPair : Type 0
  MissesNoPair = (number rule : ℕ) → MissesPair m body number rule → ⊥

  -- The first fault that applies, by the splits that are missing. It names the least state or pair
  -- to which it applies, and then the least rule, or the least lesser rule and with it the least
  -- greater one.
  abbrev pub IsFirstRefusal : (ℕ → ℕ → ℕ → Type 0) → AcceptFault → Type 0
  IsFirstRefusal Misses NoStart = HasStart → ⊥
  IsFirstRefusal Misses (StateMissing state rule) =
      HasStart
      × IsLeast (λ number. (r : ℕ) × MissesState m body number r) state
      × IsLeast (MissesState m body state) rule
  IsFirstRefusal Misses (SplitMissing state lesser greater) =
      HasStart × MissesNoState
      × IsLeast (λ number. (l g : ℕ) × Misses number l g) state
      × IsLeast (λ l. (g : ℕ) × Misses state l g) lesser
      × IsLeast (Misses state lesser) greater
  IsFirstRefusal Misses (PairMissing pair rule) =
      HasStart × MissesNoState × ((n l g : ℕ) → Misses n l g → ⊥)
      × IsLeast (λ number. (r : ℕ) × MissesPair m body number r) pair
      × IsLeast (MissesPair m body pair) rule
  IsFirstRefusal Misses (BothEnd pair) =
      HasStart × MissesNoState × ((n l g : ℕ) → Misses n l g → ⊥) × MissesNoPair × IsLeast (HasTwoEnds m body) pair

  -- likewise, where each split of one of the states must be listed
  abbrev pub IsRefused : AcceptFault → Type 0
  IsRefused fault = IsFirstRefusal (MissesSplit m body) fault
