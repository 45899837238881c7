-- The step of an edge, and what it keeps of its step's laws.
use Rattle.std.proofs.Common.{◌≡◌, ℕ, ◌<◌, ◌≤◌, List, length, Some, slice_get, arith}
use Rattle.std.proofs.lemmas.Option.{slice_get_within}
use Rattle.brl_pairs.specs.Edges.{AreEdges, AreInOrder, IsEdge}
use Rattle.brl_pairs.specs.declared.edge.Edge.{Edge}
use Rattle.brl_pairs.proofs.Lists.{inside}
use Rattle.brl_pairs.specs.Runs.{Behaviour, IsListedAt, KeepsLaws}
use Rattle.brl_pairs.specs.declared.step.Step.{Step}

module _ {S : Type 0} (m : Behaviour S) (laws : KeepsLaws m) (states : List S) (number : ℕ) (edges : List Edge) (h : AreEdges m states number edges) where
  record HasStep (place : ℕ) (e : Edge) : Type 0 where
    step : Step S
    at : IsListedAt (m.steps h.state) place step
    is_edge : IsEdge states step e

  step_of : (place : ℕ) (e : Edge) → slice_get edges place ≡ Some e → HasStep place e
  step_of place e at =
      let within : place < length edges = slice_get_within edges place e at in
      let x = inside (m.steps h.state) place (omega (arith, within, h.listed.count)) in
      record { step = x.0; at = x.1; is_edge = h.listed.each place x.0 e x.1 at }

  pub in_order : AreInOrder edges
  in_order i j x y less x_at y_at =
      let a = step_of i x x_at in
      let b = step_of j y y_at in
      let ascend : a.step.rule ≤ b.step.rule = (laws.in_order h.state i j a.step b.step less a.at b.at).ascend in
      omega (arith, a.is_edge.rule, b.is_edge.rule)
