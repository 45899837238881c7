-- What a search of a machine may answer. These are this project's own choice.
use Rattle.std.specs.Prelude.{◌≡◌, ◌≢◌, ℕ, ◌+◌, ◌<◌, ◌≤◌, IsTrue, List, [], ◌⊎◌, length, Some, slice_get}
use Rattle.brl_pairs.specs.Body.{BodyView}
use Rattle.brl_pairs.specs.Sets.{pair_at, sets_of}
use Rattle.brl_pairs.specs.declared.step.Pair.{Pair}
use Rattle.brl_pairs.specs.declared.step.Step.{Step}
use Rattle.brl_pairs.specs.Pairs.{IsClosed}
use Rattle.brl_pairs.specs.Runs.{Behaviour, IsListed, IsPath, cells_of, reads_of}
use Rattle.brl_closure.specs.declared.search.outcome.Outcome.{Outcome}
use Rattle.brl_closure.specs.declared.search.outcome.Outcome.TheVariants.{Closed, BothEnd, Limit}
use Rattle.brl_closure.specs.Reached.{AtLeast, Reached, ReachedPair, SamePair, SameState}

-- ---- Closed

-- each state of a body is reached
abbrev pub HasReachedStates : {S : Type 0} → Behaviour S → BodyView S → Type 0
HasReachedStates {S} m body = (number : ℕ) (s : S) → slice_get body.states number ≡ Some s → Reached m s

-- each pair of a body is reached
abbrev pub HasReachedPairs : {S : Type 0} → Behaviour S → BodyView S → Type 0
HasReachedPairs {S} m body = (number : ℕ) (p : Pair S) → pair_at body number ≡ Some p → ReachedPair m p

-- it has at most `limit` states and at most `limit` pairs
abbrev pub IsWithin : {S : Type 0} → ℕ → BodyView S → Type 0
IsWithin limit body = (length body.states ≤ limit) × (length body.pairs ≤ limit)

-- a listed step of the state with a lesser number leads to the state with this number
pub record IsLedTo {S : Type 0} (m : Behaviour S) (states : List S) (number : ℕ) (s : S) : Type 0 where
  pub lesser : ℕ
  pub is_lesser : lesser < number
  pub state : S
  pub at : slice_get states lesser ≡ Some state
  pub step : Step S
  pub listed : IsListed (m.steps state) step
  pub next : step.next ≡ s

-- the start is the first of these states, and steps of earlier ones lead to each other
pub record AreInOrder {S : Type 0} (m : Behaviour S) (states : List S) : Type 0 where
  pub first : slice_get states 0 ≡ Some m.start
  pub each : (number : ℕ) (s : S) → 0 < number → slice_get states number ≡ Some s → IsLedTo m states number s

-- closed sets of reached states and pairs, within the limit, the states in the order in which they
-- are found
pub record IsCertified {S : Type 0} (m : Behaviour S) (limit : ℕ) (body : BodyView S) : Type 0 where
  pub closed : IsClosed m (sets_of body)
  pub states : HasReachedStates m body
  pub pairs : HasReachedPairs m body
  pub within : IsWithin limit body
  pub order : AreInOrder m body.states

-- ---- Limit

-- one of the two numbers is more than the limit, neither by more than one, and no more states or
-- pairs are counted than are reached
pub record IsLimit {S : Type 0} (m : Behaviour S) (limit states pairs : ℕ) : Type 0 where
  pub passed : (limit < states) ⊎ (limit < pairs)
  pub few_states : states ≤ limit + 1
  pub few_pairs : pairs ≤ limit + 1
  pub states_reached : AtLeast states SameState (Reached m)
  pub pairs_reached : AtLeast pairs SamePair (ReachedPair m)

-- ---- Two ends

-- some reached pair has an empty lead and two final states
pub record HasTwoEndsReached {S : Type 0} (m : Behaviour S) : Type 0 where
  pub pair : Pair S
  pub reached : ReachedPair m pair
  pub no_lead : pair.lead ≡ []
  pub ahead_ends : IsTrue (m.ends pair.ahead)
  pub behind_ends : IsTrue (m.ends pair.behind)

-- two different paths from the start to final states, which give the same cells, read these
-- texts
pub record AreTwoPaths {S : Type 0} (m : Behaviour S) (left right : List ℕ) : Type 0 where
  pub one : List (Step S)
  pub two : List (Step S)
  pub one_path : IsPath m m.start one
  pub two_path : IsPath m m.start two
  pub differ : one ≢ two
  pub same_cells : cells_of one ≡ cells_of two
  pub left_reads : reads_of one ≡ left
  pub right_reads : reads_of two ≡ right

-- ---- Outcomes

-- what holds of the outcome of a search of a machine
abbrev pub IsOutcome : {S : Type 0} → Behaviour S → ℕ → Outcome S → Type 0
IsOutcome m limit (Closed body) = IsCertified m limit body
IsOutcome m limit (BothEnd left right) = AreTwoPaths m left.items right.items × HasTwoEndsReached m
IsOutcome m limit (Limit states pairs) = IsLimit m limit states pairs
