-- The states that are found, and those from which a final state is reached. The project's own
-- choice.
use Rattle.std.specs.Prelude.{ℕ, ◌≡◌, ◌<◌, ◌↔◌, Bool, true, List, Some, length, slice_get}
use Rattle.std.specs.List.{Contains}
use Rattle.brl_contexts.specs.Contexts.{IsWithin, edges_by}
use Rattle.brl_contexts.specs.declared.contexts.Expanded.{Expanded}
use Rattle.brl_pairs.specs.declared.edge.ListedEdge.{ListedEdge}
use Rattle.brl_unused.specs.declared.found.FoundStates.{FoundStates}

-- the state that is found at this place is expanded, and this is one of its edges
pub record HasEdge {S D : Type 0} (f : FoundStates S D) (place : ℕ) (e : ListedEdge) : Type 0 where
  pub own : Expanded
  pub at : slice_get f.expanded.items place ≡ Some own
  pub one : Contains (edges_by f.contexts own) e

-- all states that are found are expanded, and they and those to which edges lead are known
pub record IsWhole {S D : Type 0} (f : FoundStates S D) : Type 0 where
  pub count : length f.expanded.items ≡ length f.order.items
  pub known : (number : ℕ) → Contains f.order.items number → number < length f.contexts.named.states
  pub within : (place : ℕ) (own : Expanded) → slice_get f.expanded.items place ≡ Some own → IsWithin f.contexts own
  pub nexts : (place : ℕ) (e : ListedEdge) → HasEdge f place e → e.next < length f.contexts.named.states

-- a final state is live, and so is each state of which an edge leads to a live one
pub data IsLive {S D : Type 0} (ends : List Bool) (f : FoundStates S D) : ℕ → Type 0 where
  final : {number : ℕ} → slice_get ends number ≡ Some true → IsLive ends f number
  step : {place number : ℕ} {e : ListedEdge} → slice_get f.order.items place ≡ Some number → HasEdge f place e → IsLive ends f e.next → IsLive ends f number

-- just the live states are marked
pub record AreLive {S D : Type 0} (ends : List Bool) (f : FoundStates S D) (live : List Bool) : Type 0 where
  pub count : length live ≡ length ends
  pub each : (number : ℕ) → (slice_get live number ≡ Some true) ↔ IsLive ends f number

-- each number is less than those after it
abbrev pub AreAscending : List ℕ → Type 0
AreAscending numbers = (i j a b : ℕ) → i < j → slice_get numbers i ≡ Some a → slice_get numbers j ≡ Some b → a < b
