-- Internal. What the pass over the states finds.
use Rattle.std.specs.Prelude.{ℕ, ◌≡◌, ◌+◌, ◌<◌, ◌≤◌, List, length, Option, Some, MatchOption, slice_get}
use Rattle.brl_closure.specs.Alike.{AreFirstTwoAt}
use Rattle.brl_closure.specs.Least.{IsLeast, IsLeastFound, IsLeastPair}
use Rattle.brl_closure.specs.Excusing.{MissesUnexcused}
use Rattle.brl_closure.specs.Refusals.{MissesPair}
use Rattle.brl_closure.specs.declared.check.pairs_by_state.PairsByTrailingState.{PairsByTrailingState}
use Rattle.brl_closure.specs.declared.check.missing.MissingPair.{MissingPair}
use Rattle.brl_closure.specs.declared.check.missing.MissingSplit.{MissingSplit}
use Rattle.brl_closure.specs.declared.check.pass.Missing.{Missing}
use Rattle.brl_pairs.specs.Body.{BodyView, NumberPair}
use Rattle.brl_pairs.specs.declared.edge.Edge.{Edge}
use Rattle.brl_pairs.specs.declared.excused.Excused.{Excused}
use Rattle.brl_pairs.specs.Runs.{Behaviour}

-- ---- The pairs by the state of their run behind

-- the run behind of the pair with this number is in this state
pub record IsBehind (pairs : List NumberPair) (state number : ℕ) : Type 0 where
  pub pair : NumberPair
  pub at : slice_get pairs number ≡ Some pair
  pub behind : pair.behind ≡ state

-- likewise, and the number is not below this one
abbrev pub IsBehindFrom : List NumberPair → ℕ → ℕ → ℕ → Type 0
IsBehindFrom pairs state low number = (low ≤ number) × IsBehind pairs state number

-- for each state the least pair whose run behind is there, and for each pair the least greater one
-- whose run behind is in the same state
pub record ArePairsBehind (states : ℕ) (pairs : List NumberPair) (behind : PairsByTrailingState) : Type 0 where
  pub first_count : length behind.first.items ≡ states
  pub next_count : length behind.next.items ≡ length pairs
  pub each_first : (state : ℕ) (found : Option ℕ) → slice_get behind.first.items state ≡ Some found → IsLeastFound (IsBehindFrom pairs state 0) found
  pub each_next : (number : ℕ) (pair : NumberPair) (found : Option ℕ) → slice_get pairs number ≡ Some pair → slice_get behind.next.items number ≡ Some found → IsLeastFound (IsBehindFrom pairs pair.behind (number + 1)) found

-- ---- What is missing

-- `Misses` says of a state and two rules that such a split must be listed and isn't
module _ (Misses : ℕ → ℕ → ℕ → Type 0) where
  -- the least rules of two steps from the state with this number that split into a missing pair
  abbrev pub IsSplitFound : ℕ → Option MissingSplit → Type 0
  IsSplitFound number found = MatchOption found ((lesser greater : ℕ) → Misses number lesser greater → ⊥)
      (λ split. (split.state ≡ number) × IsLeastPair (Misses number) (split.lesser, split.greater))

  -- no steps of the states below this one split into a missing pair
  abbrev pub MissesNoSplitBelow : ℕ → Type 0
  MissesNoSplitBelow end = (number lesser greater : ℕ) → number < end → Misses number lesser greater → ⊥

  -- the first missing split: the least state that misses one, and the least two rules of one there
  pub record IsLeastSplit (split : MissingSplit) : Type 0 where
    pub state : IsLeast (λ number. (l g : ℕ) × Misses number l g) split.state
    pub lesser : IsLeast (λ l. (g : ℕ) × Misses split.state l g) split.lesser
    pub greater : IsLeast (Misses split.state split.lesser) split.greater

module _ {S : Type 0} (m : Behaviour S) (body : BodyView S) where
  -- a step of this rule leads from the pair with this number to a pair that isn't listed, and its
  -- run behind is in a state below this one
  pub record MissesPairBelow (end number rule : ℕ) : Type 0 where
    pub misses : MissesPair m body number rule
    pub state : ℕ
    pub below : state < end
    pub behind : IsBehind body.pairs state number

  -- the least pair that misses one, of those whose run behind is in a state below this one, and the
  -- least rule
  abbrev pub IsPairFound : ℕ → Option MissingPair → Type 0
  IsPairFound end found = MatchOption found ((number rule : ℕ) → MissesPairBelow end number rule → ⊥)
      (λ least. IsLeastPair (MissesPairBelow end) (least.pair, least.rule))

module _ {S : Type 0} (m : Behaviour S) (excused : Excused) (body : BodyView S) where
  -- these are the first two of each kind, and maybe more, of the edges of the state of the run
  -- behind of the pair with this number
  abbrev pub AreFirstTwoBehind : ℕ → List Edge → Type 0
  AreFirstTwoBehind number edges = (pair : NumberPair) → slice_get body.pairs number ≡ Some pair → AreFirstTwoAt m excused body.states pair.behind edges

  -- the least split that is missing, or where none is missing at the states below this one, the
  -- least pair that is missing there
  abbrev pub IsMissingBelow : ℕ → Missing → Type 0
  IsMissingBelow end missing =
      MatchOption missing.split (MissesNoSplitBelow (MissesUnexcused m excused body) end × IsPairFound m body end missing.pair)
      (IsLeastSplit (MissesUnexcused m excused body))
