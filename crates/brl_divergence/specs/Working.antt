-- Internal. What is left to do in a listing: states to be expanded, and states whose splits are to
-- be settled.
use Rattle.std.specs.Prelude.{◌≡◌, ℕ, ◌+◌, ◌-◌, ◌<◌, ◌≤◌, ◌⊎◌, List, [], length}
use Rattle.std.specs.BTreeMap.{btree_map_len}
use Rattle.brl_pairs.specs.Runs.{Behaviour}
use Rattle.brl_pairs.specs.declared.step.Step.{Step}
use Rattle.brl_parts.specs.Parts.{AreKeptParts, PartsView}
use Rattle.brl_closure.specs.Trail.{IsActive}
use Rattle.brl_closure.specs.declared.search.finder.Finder.{Finder}
use Rattle.brl_divergence.specs.Answers.{IsListed}
use Rattle.brl_divergence.specs.Expanded.{AreExpanded}
use Rattle.brl_divergence.specs.Found.{IsSettledState, IsSound}
use Rattle.brl_divergence.specs.declared.expanded.Expanded.{Expanded}
use Rattle.brl_divergence.specs.declared.found.FoundSoFar.{FoundSoFar}

-- states are expanded, with the parts of their steps, and no pair is found yet, nor are steps kept;
-- the pairs of rules that are listed were known at the start, and are within the limit
pub record IsExpanding {M S P : Type 0} (behaviour : M → Behaviour S) (steps_of : M → P → List (Step S)) (f : Finder M S) (e : Expanded) (parts : PartsView P) (it : FoundSoFar S) : Type 0 where
  pub active : IsActive behaviour f it.trail
  pub expanded : AreExpanded (behaviour f.machine.now) it.trail.states e
  pub kept_parts : AreKeptParts (steps_of f.machine.now) it.trail.states e.cells parts
  pub there : length e.edges.items ≤ length it.trail.states
  pub no_pairs : it.trail.pairs ≡ []
  pub listed : IsListed (behaviour f.machine.now) it.list
  pub few : btree_map_len it.list ≤ f.limit
  pub no_known : it.known.lists.items ≡ []

-- all states are expanded, and the splits of the first ones are settled
pub record IsSettling {M S : Type 0} (behaviour : M → Behaviour S) (f : Finder M S) (e : Expanded) (it : FoundSoFar S) (settled : ℕ) : Type 0 where
  pub sound : IsSound behaviour f e it
  pub there : settled ≤ length it.trail.states
  pub states : (k : ℕ) → k < settled → IsSettledState (behaviour f.machine.now) it k

-- one of the two: as long as a state isn't expanded, none is settled
abbrev pub IsWorking : {M S P : Type 0} → (M → Behaviour S) → (M → P → List (Step S)) → Finder M S → Expanded → PartsView P → FoundSoFar S → ℕ → Type 0
IsWorking behaviour steps_of f e parts it settled = (IsExpanding behaviour steps_of f e parts it × (settled ≡ 0)) ⊎ IsSettling behaviour f e it settled

-- all states are expanded, and their splits are settled
pub record IsDone {M S : Type 0} (behaviour : M → Behaviour S) (f : Finder M S) (e : Expanded) (it : FoundSoFar S) : Type 0 where
  pub sound : IsSound behaviour f e it
  pub states : (k : ℕ) → k < length it.trail.states → IsSettledState (behaviour f.machine.now) it k

-- how many steps are left at most: each expands a state or settles the splits of one
abbrev pub steps_left : ℕ → Expanded → ℕ → ℕ
steps_left limit e settled = (limit - length e.edges.items) + (limit - settled)

-- what a step does: fewer are left
pub record IsStep {M S P : Type 0} (behaviour : M → Behaviour S) (steps_of : M → P → List (Step S)) (f : Finder M S) (e : Expanded) (settled : ℕ) (e' : Expanded) (parts : PartsView P) (it : FoundSoFar S) (settled' : ℕ) : Type 0 where
  pub working : IsWorking behaviour steps_of f e' parts it settled'
  pub fewer : steps_left f.limit e' settled' < steps_left f.limit e settled

-- what this number of steps does: at least this many fewer are left
pub record AreSteps {M S P : Type 0} (behaviour : M → Behaviour S) (steps_of : M → P → List (Step S)) (steps : ℕ) (f : Finder M S) (e : Expanded) (settled : ℕ) (e' : Expanded) (parts : PartsView P) (it : FoundSoFar S) (settled' : ℕ) : Type 0 where
  pub working : IsWorking behaviour steps_of f e' parts it settled'
  pub fewer : steps_left f.limit e' settled' + steps ≤ steps_left f.limit e settled
