-- Internal. What is found of a machine's states, and of their steps.
use Rattle.std.specs.Prelude.{ℕ, ◌≡◌, ◌+◌, ◌<◌, ◌≤◌, ◌⊎◌, ◌↔◌, Bool, true, List, [], ◌∷◌, ◌++◌, Some, length, slice_get}
use Rattle.std.specs.List.{Contains}
use Rattle.brl_closure.specs.Reached.{Reached}
use Rattle.brl_contexts.specs.Contexts.{AreContexts, AreEdgesAt, IsEmpty}
use Rattle.brl_contexts.specs.declared.contexts.Expanded.{Expanded}
use Rattle.brl_pairs.specs.Based.{Sharing}
use Rattle.brl_pairs.specs.Members.{HaveOneNumber}
use Rattle.brl_pairs.specs.Runs.{Behaviour}
use Rattle.brl_pairs.specs.declared.edge.ListedEdge.{ListedEdge}
use Rattle.brl_unused.specs.Graph.{HasEdge}
use Rattle.brl_unused.specs.declared.found.FoundStates.{FoundStates}

-- the number is added at the end, or nothing is
abbrev pub AddsAtMost : List ℕ → ℕ → List ℕ → Type 0
AddsAtMost old number new = (new ≡ old) ⊎ (new ≡ old ++ number ∷ [])

-- both mark the same numbers
abbrev pub MarkSame : List Bool → List Bool → Type 0
MarkSame old new = (number : ℕ) → (slice_get old number ≡ Some true) ↔ (slice_get new number ≡ Some true)

-- just these numbers are marked, and each is there once
pub record MarksAre (numbers : List ℕ) (marks : List Bool) : Type 0 where
  pub each : (number : ℕ) → Contains numbers number ↔ (slice_get marks number ≡ Some true)
  pub once : HaveOneNumber numbers

-- numbers are added at the end, of states to which these edges lead
pub record Enters (edges : List ListedEdge) (old new : List ℕ) : Type 0 where
  pub more : List ℕ
  pub adds : new ≡ old ++ more
  pub entered : (number : ℕ) → Contains more number → (e : ListedEdge) × Contains edges e × (e.next ≡ number)

-- nothing is found, and nothing is known
pub record IsNothing {S D : Type 0} (f : FoundStates S D) : Type 0 where
  pub contexts : IsEmpty f.contexts
  pub order : f.order.items ≡ []
  pub marks : f.marks.items ≡ []
  pub expanded : f.expanded.items ≡ []

-- each number is of a state that is reached
abbrev pub AreReached : {S : Type 0} → Behaviour S → List S → List ℕ → Type 0
AreReached {S} m states numbers = (number : ℕ) → Contains numbers number → (s : S) × (slice_get states number ≡ Some s) × Reached m s

-- The start is found, and only states are that are reached. Of the first of them is known what
-- their steps are, and the states to which these lead are found.
pub record AreFound {S D : Type 0} (m : Behaviour S) (h : Sharing S D) (f : FoundStates S D) : Type 0 where
  pub contexts : AreContexts m h f.contexts
  pub marks : MarksAre f.order.items f.marks.items
  pub reached : AreReached m f.contexts.named.states f.order.items
  pub start : (number : ℕ) × Contains f.order.items number × (slice_get f.contexts.named.states number ≡ Some m.start)
  pub few : length f.expanded.items ≤ length f.order.items
  pub edges : (place number : ℕ) (own : Expanded) → slice_get f.order.items place ≡ Some number → slice_get f.expanded.items place ≡ Some own
      → AreEdgesAt m f.contexts number own
  pub entered : (place : ℕ) (e : ListedEdge) → HasEdge f place e → Contains f.order.items e.next

-- the limit is passed, by no more than one, and each state that is found is reached, and found once
pub record HavePassed {S D : Type 0} (m : Behaviour S) (limit : ℕ) (f : FoundStates S D) : Type 0 where
  pub passed : limit < length f.order.items
  pub by_one : length f.order.items ≤ limit + 1
  pub reached : AreReached m f.contexts.named.states f.order.items
  pub once : HaveOneNumber f.order.items
