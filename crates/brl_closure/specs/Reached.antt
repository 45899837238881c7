-- What a search may find of a machine: the states and pairs that are reached from its start. Pairs
-- of runs are those of Sardinas and Patterson, where the lead is called the dangling suffix; that
-- they are asked of a machine is this project's own choice.
use Rattle.std.specs.Prelude.{◌≡◌, ℕ, ◌<◌, ◌≤◌, List, [], ◌⊎◌, length, Some, slice_get}
use Rattle.brl_pairs.specs.declared.step.Pair.{Pair}
use Rattle.brl_pairs.specs.declared.step.Step.{Step}
use Rattle.brl_pairs.specs.Runs.{Behaviour, IsListed}
use Rattle.brl_pairs.specs.Pairs.{Splits, Follows, swapped}

-- the start is reached, and so is the state in which a step from a reached state ends
pub data Reached {S : Type 0} (m : Behaviour S) : S → Type 0 where
  start : Reached m m.start
  step : {s : S} {x : Step S} → Reached m s → IsListed (m.steps s) x → Reached m x.next

-- Splits of reached states are reached pairs, and so is what a step of the run behind makes of a
-- reached pair. With a pair whose lead is empty its other order is reached.
pub data ReachedPair {S : Type 0} (m : Behaviour S) : Pair S → Type 0 where
  split : {s : S} {p : Pair S} → Reached m s → Splits (m.steps s) p → ReachedPair m p
  move : {p q : Pair S} → ReachedPair m p → Follows m p q → ReachedPair m q
  other_order : {p : Pair S} → ReachedPair m p → p.lead ≡ [] → ReachedPair m (swapped p)

-- a pair and its other order, where its lead is empty, are counted as one
abbrev pub SamePair : {S : Type 0} → Pair S → Pair S → Type 0
SamePair p q = (p ≡ q) ⊎ ((p.lead ≡ []) × (swapped p ≡ q))

-- a state is counted as one with itself alone
abbrev pub SameState : {S : Type 0} → S → S → Type 0
SameState a b = a ≡ b

-- there are at least n different things of this kind: some list has n of them, no two the same
pub record AtLeast {A : Type 0} (n : ℕ) (Same : A → A → Type 0) (Kind : A → Type 0) : Type 0 where
  pub list : List A
  pub count : length list ≡ n
  pub each : (i : ℕ) (x : A) → slice_get list i ≡ Some x → Kind x
  pub differ : (i j : ℕ) (x y : A) → i < j → slice_get list i ≡ Some x → slice_get list j ≡ Some y → Same x y → ⊥

-- there are at most n things of this kind: whenever there are at least k of them, k is at most n
abbrev pub AtMost : {A : Type 0} → ℕ → (A → A → Type 0) → (A → Type 0) → Type 0
AtMost n Same Kind = (k : ℕ) → AtLeast k Same Kind → k ≤ n
