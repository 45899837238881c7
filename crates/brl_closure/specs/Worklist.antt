-- Internal. What is left to do in a search: states to be expanded, and queued pairs to be walked.
use Rattle.std.specs.Prelude.{◌≡◌, ℕ, ◌+◌, ◌-◌, ◌*◌, ◌<◌, ◌≤◌, All, Contains, List, ◌⊎◌, length, Some, slice_get}
use Rattle.std.specs.declared.cmp.Reverse.{Reverse}
use Rattle.std.specs.BinaryHeap.{heap_items, heap_len}
use Rattle.brl_pairs.specs.Body.{NumberPair}
use Rattle.brl_pairs.specs.Runs.{Behaviour}
use Rattle.brl_pairs.specs.declared.step.Step.{Step}
use Rattle.brl_parts.specs.Parts.{AreKeptParts}
use Rattle.brl_closure.specs.Edges.{AreKeptOrNone, IsExpanded, IsWalked}
use Rattle.brl_closure.specs.SearchView.{Stays}
use Rattle.brl_closure.specs.Trail.{Extends, IsActive}
use Rattle.brl_closure.specs.declared.search.finder.Finder.{Finder}
use Rattle.brl_closure.specs.declared.search.trail.Trail.{Trail}
use Rattle.brl_closure.specs.declared.search.worklist.Worklist.{Worklist}

-- the pair with this number is queued, with the number of some state
abbrev pub IsQueued : ℕ → List (Reverse (ℕ × ℕ)) → Type 0
IsQueued n items = (behind : ℕ) × Contains items (record { 0 = (behind, n) })

-- a pair is queued with the number of its own state behind
abbrev pub IsItemOf : List NumberPair → Reverse (ℕ × ℕ) → Type 0
IsItemOf pairs item = (p : NumberPair) × (slice_get pairs item.0.1 ≡ Some p) × (p.behind ≡ item.0.0)

-- the state behind of the pair that comes first, where one is queued, has not been expanded
abbrev pub NoneIsReady : {P : Type 0} → Worklist P → Type 0
NoneIsReady w = (item : Reverse (ℕ × ℕ)) → slice_get (heap_items w.queue) 0 ≡ Some item → length w.expanded.items ≤ item.0.0

-- For the expanded states, and for the pairs that are no longer queued, all that their steps lead
-- to is found.
pub record IsWorking {M S P : Type 0} (behaviour : M → Behaviour S) (steps_of : M → P → List (Step S)) (f : Finder M S) (t : Trail S) (w : Worklist P) : Type 0 where
  pub active : IsActive behaviour f t
  pub there : length w.expanded.items ≤ length t.states
  pub edges : AreKeptOrNone (behaviour f.machine.now) t.states w.cells w.expanded.items
  pub parts : AreKeptParts (steps_of f.machine.now) t.states w.cells w.parts
  pub states : (k : ℕ) → k < length w.expanded.items → IsExpanded (behaviour f.machine.now) t.states t.pairs k
  pub pairs : (n : ℕ) → n < length t.pairs → IsQueued n (heap_items w.queue) ⊎ IsWalked (behaviour f.machine.now) t.states t.pairs n
  pub items : All (IsItemOf t.pairs) (heap_items w.queue)

-- After the edges of a state were asked for, the same states are expanded and the same pairs
-- queued. What is kept of edges and parts is right for these states.
pub record StillHas {S P : Type 0} (m : Behaviour S) (steps_of : P → List (Step S)) (states : List S) (old new : Worklist P) : Type 0 where
  pub cells : Stays old.cells new.cells
  pub count : length new.expanded.items ≡ length old.expanded.items
  pub edges : AreKeptOrNone m states new.cells new.expanded.items
  pub parts : AreKeptParts steps_of states new.cells new.parts
  pub queue : new.queue ≡ old.queue

-- all states are expanded and all pairs walked
pub record IsFinished {M S : Type 0} (behaviour : M → Behaviour S) (f : Finder M S) (t : Trail S) : Type 0 where
  pub active : IsActive behaviour f t
  pub states : (k : ℕ) → k < length t.states → IsExpanded (behaviour f.machine.now) t.states t.pairs k
  pub pairs : (n : ℕ) → n < length t.pairs → IsWalked (behaviour f.machine.now) t.states t.pairs n

-- how many steps are left at most: each expands a state or walks a pair
abbrev pub steps_left : {S P : Type 0} → ℕ → Trail S → Worklist P → ℕ
steps_left limit t w = (limit - length w.expanded.items) + 2 * (limit - length t.pairs) + heap_len w.queue

-- what a step does: what is done stays done, what was found stays found, and fewer steps are left
pub record IsStep {M S P : Type 0} (behaviour : M → Behaviour S) (steps_of : M → P → List (Step S)) (f : Finder M S) (t : Trail S) (w : Worklist P) (t' : Trail S) (w' : Worklist P) : Type 0 where
  pub working : IsWorking behaviour steps_of f t' w'
  pub extends : Extends t t'
  pub fewer : steps_left f.limit t' w' < steps_left f.limit t w

-- what this number of steps does: at least this many fewer are left
pub record AreSteps {M S P : Type 0} (behaviour : M → Behaviour S) (steps_of : M → P → List (Step S)) (steps : ℕ) (f : Finder M S) (t : Trail S) (w : Worklist P) (t' : Trail S) (w' : Worklist P) : Type 0 where
  pub working : IsWorking behaviour steps_of f t' w'
  pub extends : Extends t t'
  pub fewer : steps_left f.limit t' w' + steps ≤ steps_left f.limit t w
