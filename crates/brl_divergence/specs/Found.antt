-- Internal. What a listing has found: states and pairs, and pairs of rules that are listed.
use Rattle.std.specs.Prelude.{◌≡◌, ℕ, ◌+◌, ◌<◌, ◌≤◌, ◌⊎◌, Contains, List, length}
use Rattle.std.specs.BTreeMap.{btree_map_len}
use Rattle.brl_pairs.specs.Body.{NumberPair}
use Rattle.brl_pairs.specs.Edges.{IsEdge}
use Rattle.brl_pairs.specs.NumberPairs.{IsFollowed}
use Rattle.brl_pairs.specs.Runs.{Behaviour}
use Rattle.brl_pairs.specs.declared.edge.Edge.{Edge}
use Rattle.brl_pairs.specs.declared.step.Step.{Step}
use Rattle.brl_closure.specs.Edges.{IsWalked}
use Rattle.brl_closure.specs.KnownSteps.{AreKnown}
use Rattle.brl_closure.specs.SearchView.{Stays}
use Rattle.brl_closure.specs.Trail.{IsActive, IsTraced, TakesStep}
use Rattle.brl_closure.specs.declared.search.finder.Finder.{Finder}
use Rattle.brl_closure.specs.declared.search.trail.PairOrigin.{PairOrigin}
use Rattle.brl_closure.specs.declared.search.trail.PairOrigin.TheVariants.{Split, Still, Swapped}
use Rattle.brl_closure.specs.declared.search.trail.Trail.{Trail}
use Rattle.brl_divergence.specs.Answers.{IsListed}
use Rattle.brl_divergence.specs.Expanded.{AreExpanded}
use Rattle.brl_divergence.specs.Listed.{rules_of}
use Rattle.brl_divergence.specs.declared.expanded.Expanded.{Expanded}
use Rattle.brl_divergence.specs.declared.found.FoundSoFar.{FoundSoFar}

-- ---- Splits

-- the pair into which two steps split, if they do, is among the pairs
pub record AreFollowed {S : Type 0} (states : List S) (pairs : List NumberPair) (x y : Step S) : Type 0 where
  pub one : Edge
  pub other : Edge
  pub one_is : IsEdge states x one
  pub other_is : IsEdge states y other
  pub followed : IsFollowed pairs one.next one.cells other

-- two steps are settled: their pair of rules is listed, or the pair into which they split is found
abbrev pub AreSettled : {S : Type 0} → FoundSoFar S → Step S → Step S → Type 0
AreSettled f x y = Contains (rules_of f.list) (x.rule, y.rule) ⊎ AreFollowed f.trail.states f.trail.pairs x y

-- the steps at these places of the state with this number are settled
abbrev pub AreSettledAt : {S : Type 0} → Behaviour S → FoundSoFar S → ℕ → ℕ → ℕ → Type 0
AreSettledAt {S} m f number i j =
    (x y : Step S) → TakesStep m f.trail.states number i x → TakesStep m f.trail.states number j y → AreSettled f x y

-- any two steps of the state with this number are settled
abbrev pub IsSettledState : {S : Type 0} → Behaviour S → FoundSoFar S → ℕ → Type 0
IsSettledState m f number = (i j : ℕ) → i < j → AreSettledAt m f number i j

-- ---- Exploring

-- the origin is the split of the steps at these two places of a state, or a step of a pair from
-- some number on
abbrev pub IsOfSplit : ℕ → ℕ → ℕ → ℕ → PairOrigin → Type 0
IsOfSplit number i j from (Split state longer shorter) = (state ≡ number) × (((longer ≡ i) × (shorter ≡ j)) ⊎ ((longer ≡ j) × (shorter ≡ i)))
IsOfSplit number i j from (Still pair place) = from ≤ pair
IsOfSplit number i j from (Swapped pair place) = from ≤ pair

-- all states are expanded, and nothing has stopped the search
pub record AreAllExpanded {M S : Type 0} (behaviour : M → Behaviour S) (f : Finder M S) (e : Expanded) (t : Trail S) : Type 0 where
  pub active : IsActive behaviour f t
  pub expanded : AreExpanded (behaviour f.machine.now) t.states e
  pub all : length e.edges.items ≡ length t.states

-- and all pairs are walked
pub record IsExplored {M S : Type 0} (behaviour : M → Behaviour S) (f : Finder M S) (e : Expanded) (t : Trail S) : Type 0 where
  pub ready : AreAllExpanded behaviour f e t
  pub walked : (n : ℕ) → n < length t.pairs → IsWalked (behaviour f.machine.now) t.states t.pairs n

-- and each listed pair of rules has its texts, and the steps that are kept are those of their
-- states
pub record IsSound {M S : Type 0} (behaviour : M → Behaviour S) (f : Finder M S) (e : Expanded) (it : FoundSoFar S) : Type 0 where
  pub explored : IsExplored behaviour f e it.trail
  pub listed : IsListed (behaviour f.machine.now) it.list
  pub few : btree_map_len it.list ≤ f.limit
  pub known : AreKnown (behaviour f.machine.now) it.trail.states it.known

-- no state is added, and what is found stays found
pub record Keeps {S : Type 0} (old new : FoundSoFar S) : Type 0 where
  pub states : new.trail.states ≡ old.trail.states
  pub pairs : Stays old.trail.pairs new.trail.pairs
  pub rules : (rules : ℕ × ℕ) → Contains (rules_of old.list) rules → Contains (rules_of new.list) rules

-- more states, pairs or listed pairs of rules than the limit are found, by no more than one
pub record IsOver {S : Type 0} (m : Behaviour S) (limit : ℕ) (it : FoundSoFar S) : Type 0 where
  pub traced : IsTraced m it.trail
  pub listed : IsListed m it.list
  pub more : (limit < length it.trail.states) ⊎ ((limit < length it.trail.pairs) ⊎ (limit < btree_map_len it.list))
  pub states : length it.trail.states ≤ limit + 1
  pub pairs : length it.trail.pairs ≤ limit + 1
  pub rules : btree_map_len it.list ≤ limit + 1
