-- Internal. What a search keeps of the states and pairs that it has found: how each was found, and
-- nothing twice.
use Rattle.std.specs.Prelude.{◌≡◌, ◌≢◌, ℕ, ◌+◌, ◌<◌, ◌≤◌, All, IsTrue, List, [], ◌++◌, ◌⊎◌, length, Some, slice_get}
use Rattle.brl_pairs.specs.Body.{IsPairOf, NumberPair}
use Rattle.brl_pairs.specs.declared.step.Step.{Step}
use Rattle.brl_pairs.specs.Pairs.{swapped}
use Rattle.brl_pairs.specs.Runs.{Behaviour, IsListedAt, KeepsLaws}
use Rattle.brl_closure.specs.SearchView.{Stays}
use Rattle.brl_closure.specs.declared.search.finder.Finder.{Finder}
use Rattle.brl_closure.specs.declared.search.finder.Stop.{Stop}
use Rattle.brl_closure.specs.declared.search.finder.Stop.TheVariants as stop
use Rattle.brl_closure.specs.declared.search.trail.StateOrigin.{StateOrigin}
use Rattle.brl_closure.specs.declared.search.trail.Origins.{Origins}
use Rattle.brl_closure.specs.declared.search.trail.PairOrigin.{PairOrigin}
use Rattle.brl_closure.specs.declared.search.trail.PairOrigin.TheVariants.{Split, Still, Swapped}
use Rattle.brl_closure.specs.declared.search.trail.Trail.{Trail}

-- ---- How states are found

-- the state with this number lists this step at this place
pub record TakesStep {S : Type 0} (m : Behaviour S) (states : List S) (number place : ℕ) (x : Step S) : Type 0 where
  pub state : S
  pub at : slice_get states number ≡ Some state
  pub listed : IsListedAt (m.steps state) place x

-- a step of the state that the origin names leads to the state
pub record IsStateOrigin {S : Type 0} (m : Behaviour S) (states : List S) (s : S) (o : StateOrigin) : Type 0 where
  pub place : ℕ
  pub step : Step S
  pub taken : TakesStep m states o.parent place step
  pub next : step.next ≡ s

-- the state with this number is found by a step of an earlier one
pub record IsFoundState {S : Type 0} (m : Behaviour S) (states : List S) (origins : List StateOrigin) (number : ℕ) (s : S) : Type 0 where
  pub origin : StateOrigin
  pub kept : slice_get origins number ≡ Some origin
  pub earlier : origin.parent < number
  pub found : IsStateOrigin m states s origin

-- ---- How pairs are found

-- two steps of the state with this number, at these places, split into the pair
pub record IsSplitOf {S : Type 0} (m : Behaviour S) (states : List S) (number longer shorter : ℕ) (p : NumberPair) : Type 0 where
  pub ahead_step : Step S
  pub behind_step : Step S
  pub differ : longer ≢ shorter
  pub ahead_taken : TakesStep m states number longer ahead_step
  pub behind_taken : TakesStep m states number shorter behind_step
  pub ahead : slice_get states p.ahead ≡ Some ahead_step.next
  pub behind : slice_get states p.behind ≡ Some behind_step.next
  pub lead : ahead_step.cells ≡ behind_step.cells ++ p.lead

-- the run behind of the earlier pair q takes the step at this place and stays behind
pub record StaysBehindOf {S : Type 0} (m : Behaviour S) (states : List S) (q : NumberPair) (place : ℕ) (p : NumberPair) : Type 0 where
  pub step : Step S
  pub taken : TakesStep m states q.behind place step
  pub ahead : p.ahead ≡ q.ahead
  pub behind : slice_get states p.behind ≡ Some step.next
  pub lead : q.lead ≡ step.cells ++ p.lead

-- the run behind of the earlier pair q takes the step at this place and gets ahead
pub record GetsAheadOf {S : Type 0} (m : Behaviour S) (states : List S) (q : NumberPair) (place : ℕ) (p : NumberPair) : Type 0 where
  pub step : Step S
  pub taken : TakesStep m states q.behind place step
  pub ahead : slice_get states p.ahead ≡ Some step.next
  pub behind : p.behind ≡ q.ahead
  pub some : p.lead ≢ []
  pub lead : step.cells ≡ q.lead ++ p.lead

-- the pair is found as the origin describes
abbrev pub IsPairOrigin : {S : Type 0} → Behaviour S → List S → List NumberPair → NumberPair → PairOrigin → Type 0
IsPairOrigin m states pairs p (Split number longer shorter) = IsSplitOf m states number longer shorter p
IsPairOrigin m states pairs p (Still number place) = (q : NumberPair) × (slice_get pairs number ≡ Some q) × StaysBehindOf m states q place p
IsPairOrigin m states pairs p (Swapped number place) = (q : NumberPair) × (slice_get pairs number ≡ Some q) × GetsAheadOf m states q place p

-- the origin names no pair but an earlier one
abbrev pub IsEarlier : ℕ → PairOrigin → Type 0
IsEarlier number (Split state longer shorter) = Unit {0}
IsEarlier number (Still pair place) = pair < number
IsEarlier number (Swapped pair place) = pair < number

-- the pair with this number is found by two steps of a state or by a step of an earlier pair
pub record IsFoundPair {S : Type 0} (m : Behaviour S) (states : List S) (pairs : List NumberPair) (origins : List PairOrigin) (number : ℕ) (p : NumberPair) : Type 0 where
  pub origin : PairOrigin
  pub kept : slice_get origins number ≡ Some origin
  pub earlier : IsEarlier number origin
  pub found : IsPairOrigin m states pairs p origin

-- ---- What is kept

-- two pairs that aren't counted as one
pub record DifferAsPairs (p q : NumberPair) : Type 0 where
  pub in_this_order : p ≢ q
  pub in_other_order : p.lead ≡ [] → swapped p ≢ q

-- each state and pair is found from the start on, and no pair is there twice
pub record IsTraced {S : Type 0} (m : Behaviour S) (t : Trail S) : Type 0 where
  pub start : slice_get t.states 0 ≡ Some m.start
  pub state_origins : length t.state_origins.items ≡ length t.states
  pub pair_origins : length t.pair_origins.items ≡ length t.pairs
  pub each_state : (k : ℕ) (s : S) → 0 < k → slice_get t.states k ≡ Some s → IsFoundState m t.states t.state_origins.items k s
  pub each_pair : (n : ℕ) (p : NumberPair) → slice_get t.pairs n ≡ Some p → IsFoundPair m t.states t.pairs t.pair_origins.items n p
  pub in_range : (n : ℕ) (p : NumberPair) → slice_get t.pairs n ≡ Some p → IsPairOf (length t.states) p
  pub differ : (i j : ℕ) (p q : NumberPair) → i < j → slice_get t.pairs i ≡ Some p → slice_get t.pairs j ≡ Some q → DifferAsPairs p q

-- the pair has an empty lead and two final states
pub record HasTwoEnds {S : Type 0} (m : Behaviour S) (states : List S) (p : NumberPair) : Type 0 where
  pub no_lead : p.lead ≡ []
  pub ahead : S
  pub behind : S
  pub ahead_at : slice_get states p.ahead ≡ Some ahead
  pub behind_at : slice_get states p.behind ≡ Some behind
  pub ahead_ends : IsTrue (m.ends ahead)
  pub behind_ends : IsTrue (m.ends behind)

-- the pair with this number has an empty lead and two final states
pub record HasTwoEndsAt {S : Type 0} (m : Behaviour S) (states : List S) (pairs : List NumberPair) (number : ℕ) : Type 0 where
  pub pair : NumberPair
  pub at : slice_get pairs number ≡ Some pair
  pub ends : HasTwoEnds m states pair

-- what is found is within the limit, and no pair has an empty lead and two final states: nothing
-- has stopped the search
pub record IsActive {M S : Type 0} (behaviour : M → Behaviour S) (f : Finder M S) (t : Trail S) : Type 0 where
  pub laws : KeepsLaws (behaviour f.machine.now)
  pub traced : IsTraced (behaviour f.machine.now) t
  pub few_states : length t.states ≤ f.limit
  pub few_pairs : length t.pairs ≤ f.limit
  pub small : f.limit ≤ 4294967295
  pub no_two_ends : (n : ℕ) (p : NumberPair) → slice_get t.pairs n ≡ Some p → HasTwoEnds (behaviour f.machine.now) t.states p → ⊥

-- one of the two numbers is more than the limit, and neither is by more than one
pub record HasPassed {S : Type 0} (limit : ℕ) (t : Trail S) : Type 0 where
  pub more : (limit < length t.states) ⊎ (limit < length t.pairs)
  pub states : length t.states ≤ limit + 1
  pub pairs : length t.pairs ≤ limit + 1

-- why a search stops
abbrev pub IsStopped : {M S : Type 0} → (M → Behaviour S) → Finder M S → Trail S → Stop → Type 0
IsStopped behaviour f t stop.Limit = IsTraced (behaviour f.machine.now) t × HasPassed f.limit t
IsStopped behaviour f t (stop.BothEnd n) = IsTraced (behaviour f.machine.now) t × HasTwoEndsAt (behaviour f.machine.now) t.states t.pairs n

-- what a trail has found stays found
pub record Extends {S : Type 0} (old new : Trail S) : Type 0 where
  pub states : Stays old.states new.states
  pub pairs : Stays old.pairs new.pairs
  pub more_states : length old.states ≤ length new.states
  pub more_pairs : length old.pairs ≤ length new.pairs

-- what each part of a step keeps: nothing has stopped the search, and all that was found stays
-- found
abbrev pub Advances : {M S : Type 0} → (M → Behaviour S) → Finder M S → Trail S → Trail S → Type 0
Advances behaviour f old new = IsActive behaviour f new × Extends old new

-- ---- How pairs are added

-- Pairs are added to a trail, each with an origin of this kind. Nothing else changes.
pub record AddsPairs {S : Type 0} (Kind : PairOrigin → Type 0) (old new : Trail S) : Type 0 where
  pub states : new.states ≡ old.states
  pub state_origins : new.state_origins.items ≡ old.state_origins.items
  pub more : List NumberPair
  pub origins : List PairOrigin
  pub pairs : new.pairs ≡ old.pairs ++ more
  pub pair_origins : new.pair_origins.items ≡ old.pair_origins.items ++ origins
  pub kinds : All Kind origins

-- the origin is one of these two
abbrev pub IsOneOf : Origins → PairOrigin → Type 0
IsOneOf two o = (o ≡ two.still) ⊎ (o ≡ two.swapped)

-- the origin is a step of the run behind of the pair with this number
abbrev pub IsMoveOf : ℕ → PairOrigin → Type 0
IsMoveOf number (Split state longer shorter) = ⊥
IsMoveOf number (Still pair place) = pair ≡ number
IsMoveOf number (Swapped pair place) = pair ≡ number
