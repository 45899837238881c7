-- The forms of a base: its steps, by numbers. The project's own choice.
use Rattle.std.specs.Prelude.{◌≡◌, ℕ, ◌<◌, Contains, List, Some, length, map, nat_eq, slice_get}
use Rattle.std.specs.List.{IsDistinct}
use Rattle.brl_contexts.specs.declared.forms.Forms.{Forms}
use Rattle.brl_contexts.specs.declared.named.Named.{Named}
use Rattle.brl_pairs.specs.Based.{Sharing}
use Rattle.brl_pairs.specs.Listed.{AreListedEdges}
use Rattle.brl_pairs.specs.Order.{IsOrderOf}
use Rattle.brl_pairs.specs.declared.step.Step.{Step}

-- what steps read
abbrev pub reads_of : {S : Type 0} → List (Step S) → List (List ℕ)
reads_of {S} steps = map (λ (x : Step S). x.reads) steps

-- each number below the count is there, once
pub record HasAll (count : ℕ) (numbers : List ℕ) : Type 0 where
  pub all : (number : ℕ) → number < count → Contains numbers number
  pub once : IsDistinct nat_eq numbers

-- at the place of each form is the gate of what it reads
pub record AreGates (gate : List ℕ → ℕ) (reads : List (List ℕ)) (gates places : List ℕ) : Type 0 where
  pub count : length places ≡ length reads
  pub each : (form : ℕ) (chars : List ℕ) (place : ℕ) → slice_get reads form ≡ Some chars → slice_get places form ≡ Some place → slice_get gates place ≡ Some (gate chars)

-- these are the forms of a base with these steps
pub record AreForms {S D : Type 0} (h : Sharing S D) (named : Named S D) (steps : List (Step S)) (forms : Forms) : Type 0 where
  pub edges : AreListedEdges named.states named.cells steps forms.edges.items
  pub reads : forms.reads.items ≡ reads_of steps
  pub order : IsOrderOf forms.reads.items forms.order
  pub all : HasAll (length steps) forms.order.numbers.items
  pub gates : AreGates h.gate forms.reads.items forms.gates.items forms.gate_of.items
