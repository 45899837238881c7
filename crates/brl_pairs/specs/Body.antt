-- States, and pairs that name them by their numbers. The limit of 1,024 cells for a lead is the
-- project's own: no step gives more.
use Rattle.std.specs.Prelude.{ℕ, ◌<◌, ◌≤◌, ◌==◌, ◌&&◌, All, Bool, List, length, bytes_eq}
use Rattle.brl_pairs.specs.declared.step.Pair.{Pair}

-- a pair that names its states by their numbers, from 0
abbrev pub NumberPair : Type 0
NumberPair = Pair ℕ

-- whether two pairs of numbers are equal
abbrev pub same_pair : NumberPair → NumberPair → Bool
same_pair p q = (p.ahead == q.ahead) && ((p.behind == q.behind) && bytes_eq p.lead q.lead)

-- states, and pairs of their numbers
pub record BodyView (S : Type 0) : Type 0 where
  pub states : List S
  pub pairs : List NumberPair

-- the body of these lists
abbrev pub listed : {S : Type 0} → List S → List NumberPair → BodyView S
listed states pairs = record { states = states; pairs = pairs }

-- a pair names two states below this count, and its lead isn't too long
pub record IsPairOf (states : ℕ) (pair : NumberPair) : Type 0 where
  pub ahead : pair.ahead < states
  pub behind : pair.behind < states
  pub lead : length pair.lead ≤ 1024

-- at most 4,294,967,295 states and as many pairs, and each pair names two of these states
pub record IsInRange {S : Type 0} (body : BodyView S) : Type 0 where
  pub few_states : length body.states ≤ 4294967295
  pub few_pairs : length body.pairs ≤ 4294967295
  pub each_pair : All (IsPairOf (length body.states)) body.pairs
