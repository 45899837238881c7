-- One step of a state is settled with each earlier one: those that may split with it are tested,
-- and the others don't split.
use Rattle.std.proofs.Common.{◌≡◌, ℕ, ◌<◌, List, inl, inr, length, Some, slice_get, subst, arith}
use Rattle.std.specs.Prelude.{Contains}
use Rattle.std.proofs.lemmas.Option.{slice_get_within}
use Rattle.brl_pairs.specs.Edges.{IsEdge}
use Rattle.brl_pairs.specs.Runs.{Behaviour}
use Rattle.brl_pairs.specs.Sorted.{cells_of}
use Rattle.brl_pairs.specs.Splits.{AreEarlier}
use Rattle.brl_pairs.specs.declared.edge.Edge.{Edge}
use Rattle.brl_pairs.specs.declared.sorted.SortedEdge.{SortedEdge}
use Rattle.brl_pairs.specs.declared.step.Step.{Step}
use Rattle.brl_pairs.proofs.Lists.{inside, same_place}
use Rattle.brl_pairs.proofs.Unmatched.{match_back, match_or_not, unmatched_followed}
use Rattle.brl_closure.specs.Trail.{TakesStep}
use Rattle.brl_closure.proofs.LeastRule.{found_of_earlier}
use Rattle.brl_divergence.specs.Expanded.{AreStepsOf}
use Rattle.brl_divergence.specs.Found.{AreSettledAt}
use Rattle.brl_divergence.specs.declared.found.FoundSoFar.{FoundSoFar}

module _ {S : Type 0} (m : Behaviour S) (it : FoundSoFar S) (number : ℕ) (cells : List (List ℕ)) (sorted : List SortedEdge) (rules : List ℕ) (h : AreStepsOf m it.trail.states number cells sorted rules) where
  -- the edge of a step
  record HasEdge (place : ℕ) (x : Step S) : Type 0 where
    edge : Edge
    at : slice_get h.edges place ≡ Some edge
    is_edge : IsEdge it.trail.states x edge

  edge_of : (place : ℕ) (x : Step S) → TakesStep m it.trail.states number place x → HasEdge place x
  edge_of place x taken =
      let same = same_place it.trail.states number taken.state h.are_edges.state taken.at h.are_edges.at in
      let here : slice_get (m.steps h.are_edges.state) place ≡ Some x = subst (λ (s : S). slice_get (m.steps s) place ≡ Some x) same taken.listed in
      let within : place < length (m.steps h.are_edges.state) = slice_get_within (m.steps h.are_edges.state) place x here in
      let e = inside h.edges place (omega (arith, within, h.are_edges.listed.count)) in
      record { edge = e.0; at = e.1; is_edge = h.are_edges.listed.each place x e.0 here e.1 }

  -- where those that were found are settled, all earlier ones are
  pub settled_place : (second : ℕ) (found : List SortedEdge) → (y : SortedEdge) × Contains sorted y × (y.place ≡ second) × AreEarlier cells sorted (cells_of cells y) second found
      → ((k : ℕ) (x : SortedEdge) → slice_get found k ≡ Some x → AreSettledAt m it number x.place second) → (i : ℕ) → i < second → AreSettledAt m it number i second
  settled_place second found own each i less x y x_taken y_taken =
      let a = edge_of i x x_taken in
      let b = edge_of second y y_taken in
      let those = found_of_earlier cells h.edges sorted h.sorted_of second b.edge b.at own.0 own.1 own.2 found own.3 in
      elim (match_or_not b.edge.cells a.edge.cells) [
        | inl matches ↦ (
            let f = those.all i a.edge less a.at matches in
            subst (λ (n : ℕ). AreSettledAt m it number n second) f.3 (each f.0 f.1 f.2) x y x_taken y_taken)
        | inr other ↦ inr (record {
          one = a.edge;
          other = b.edge;
          one_is = a.is_edge;
          other_is = b.is_edge;
          followed = unmatched_followed it.trail.pairs a.edge.next a.edge.cells b.edge (λ matches. other (match_back a.edge.cells b.edge.cells matches));
        })
      ]
