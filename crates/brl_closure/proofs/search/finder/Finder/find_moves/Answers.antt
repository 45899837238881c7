use Rattle.std.proofs.Common.{◌≡◌, ◌<◌, ℕ, List, length, Some, slice_get, inl, inr, refl, sym, ap, ◌∙◌, subst, arith}
use Rattle.std.proofs.lemmas.Bool.{cases_eq}
use Rattle.std.proofs.lemmas.Option.{slice_get_within}
use Rattle.brl_pairs.proofs.Lists.{same_place}
use Rattle.brl_pairs.specs.Edges.{AreEdges}
use Rattle.brl_pairs.specs.NumberPairs.{IsFollowed}
use Rattle.brl_pairs.specs.Sorted.{cells_of}
use Rattle.brl_pairs.specs.declared.edge.Edge.{Edge}
use Rattle.brl_pairs.specs.declared.sorted.SortedEdge.{SortedEdge}
use Rattle.brl_pairs.proofs.Numbered.{found_or_unmatched}
use Rattle.brl_pairs.proofs.SortedLaws.{edge_at, is_at}
use Rattle.brl_pairs.proofs.Unmatched.{unmatched_followed}
use Rattle.brl_closure.proofs.Edges.{IsFound, edges_more, explains_move, fits_following, found_edge}
use Rattle.brl_closure.proofs.There.{followed_more}
use Rattle.brl_closure.proofs.Additions.{advances_refl, advances_trans}
use Rattle.brl_closure.proofs.Adding.{adds_as, adds_none, adds_trans, move_origin}
use Rattle.brl_closure.specs.Trail.{IsMoveOf, IsOneOf}
use Rattle.brl_closure.proofs.search.finder.Finder.find_moves.Given.{Over}
use Rattle.brl_closure.proofs.search.finder.Finder.find_moves.Goals.{At-loop-edge, In-loop-edge}
use Rattle.brl_closure.proofs.search.finder.Finder.find_moves.Goals as goal

-- the match at hand
abbrev at_hand : (g : Over) → In-loop-edge g → SortedEdge
at_hand g c = edge_at c.as_slice-edge-items.result.now c.loop-edge.edge-index

-- the edge of the state behind that it is
found : (g : Over) (c : In-loop-edge g) → IsFound c.args.cells.now c.requires.edges.edges (at_hand g c)
found g c =
    let x_at = ap (λ (l : List SortedEdge). slice_get l c.loop-edge.edge-index) (sym c.as_slice-edge-items.ensures.value) ∙ is_at c.as_slice-edge-items.result.now c.loop-edge.edge-index c.loop-edge-test.true in
    found_edge c.args.cells.now c.requires.edges.edges c.args.sorted.now c.requires.edges.sorted_of c.as_slice-lead.result.now c.in_ok-found.found.items c.in_ok-found.ensures c.loop-edge.edge-index (at_hand g c) x_at

-- its edges stay its edges
are_edges : (g : Over) (c : At-loop-edge g) → AreEdges (g.M.Machine.behaviour c.args.self.now.machine.now) c.loop-edge.trail.states c.args.pair.now.behind c.requires.edges.edges
are_edges g c =
    edges_more (g.M.Machine.behaviour c.args.self.now.machine.now) c.args.trail.now.states c.loop-edge.trail.states c.loop-edge.invariant.advances.1.states c.args.pair.now.behind c.requires.edges.edges c.requires.edges.are_edges

pub loop-edge-init : goal.loop-edge-init
loop-edge-init g c = record {
  advances = advances_refl g.M.Machine.behaviour c.args.self.now c.args.trail.now c.requires.active;
  adds = adds_none (IsMoveOf c.args.number) c.args.trail.now c.args.trail.now refl refl refl refl;
  followed = λ k s e below. absurd (omega arith);
}

pub follow-requires-clause-fits : goal.follow-requires-clause-fits
follow-requires-clause-fits g c =
    let a = c.args in
    let here = goal.at.follow-requires-clause-fits g c in
    let f = found g here.In-loop-edge in
    let range = c.requires.active.traced.in_range a.number a.pair.now c.requires.pair in
    let more = c.loop-edge.invariant.advances.1.more_states in
    rw (c.as_slice-lead.ensures, c.cells_of.ensures ∙ f.cells_is, f.next)
    (fits_following (g.M.Machine.behaviour a.self.now.machine.now) c.requires.active.laws c.loop-edge.trail.states a.pair.now.behind c.requires.edges.edges (are_edges g here.At-loop-edge)
    (at_hand g here.In-loop-edge).place f.edge f.at a.pair.now.ahead a.pair.now.lead (omega (arith, range.ahead, more)) range.lead)

pub follow-requires-clause-explained : goal.follow-requires-clause-explained
follow-requires-clause-explained g c =
    let a = c.args in
    let here = goal.at.follow-requires-clause-explained g c in
    let f = found g here.In-loop-edge in
    rw (c.as_slice-lead.ensures, c.cells_of.ensures ∙ f.cells_is, f.next)
    (explains_move (g.M.Machine.behaviour a.self.now.machine.now) c.requires.active.laws c.loop-edge.trail.states c.loop-edge.trail.pairs a.number a.pair.now (c.loop-edge.invariant.advances.1.pairs a.number a.pair.now c.requires.pair)
    c.requires.edges.edges (are_edges g here.At-loop-edge) (at_hand g here.In-loop-edge).place f.edge f.at)

pub loop-edge-preserved : goal.loop-edge-preserved
loop-edge-preserved g c =
    let a = c.args in
    let items = c.as_slice-edge-items.result.now in
    let here = (goal.at.loop-edge-preserved g c).In-loop-edge in
    let s = at_hand g here in
    record {
      advances = advances_trans g.M.Machine.behaviour a.self.now a.trail.now c.loop-edge.trail c.follow.new.trail c.loop-edge.invariant.advances c.in_ok-follow.ensures.advances;
      adds = adds_trans (IsMoveOf a.number) a.trail.now c.loop-edge.trail c.follow.new.trail c.loop-edge.invariant.adds (adds_as (IsOneOf _) (IsMoveOf a.number) c.loop-edge.trail c.follow.new.trail (move_origin a.number _) c.follow.ensures.adds);
      followed = λ k x e below at next cells. elim (cases_eq k c.loop-edge.edge-index) [
        | inl same_number ↦ (
            let same : x ≡ s = same_place items c.loop-edge.edge-index x s (ap (slice_get items) (sym same_number) ∙ at) (is_at items c.loop-edge.edge-index c.loop-edge-test.true) in
            subst (λ (lead : List ℕ). IsFollowed c.follow.new.trail.pairs a.pair.now.ahead lead e) c.as_slice-lead.ensures
            (c.in_ok-follow.ensures.followed e (next ∙ ap (λ (z : SortedEdge). z.next) same) (cells ∙ ap (cells_of a.cells.now) same ∙ sym c.cells_of.ensures)))
        | inr other ↦ followed_more c.loop-edge.trail.pairs c.follow.new.trail.pairs c.in_ok-follow.ensures.advances.1.pairs a.pair.now.ahead a.pair.now.lead e
            (c.loop-edge.invariant.followed k x e (omega arith) at next cells)
      ];
    }

pub returns-clause-walked : goal.returns-clause-walked
returns-clause-walked g c =
    let a = c.args in
    let edges = c.requires.edges.edges in
    let lead = c.as_slice-lead.result.now in
    let found = c.in_ok-found.found.items in
    let items = c.as_slice-edge-items.result.now in
    let whole : items ≡ found = c.as_slice-edge-items.ensures.value in
    record {
      pair = a.pair.now;
      at = c.loop-edge.invariant.advances.1.pairs a.number a.pair.now c.requires.pair;
      edges = edges;
      are_edges = are_edges g (goal.at.returns-clause-walked g c).At-loop-edge;
      moves = λ k e at. elim (found_or_unmatched a.cells.now edges a.sorted.now c.requires.edges.sorted_of lead found c.in_ok-found.ensures k e at) [
        | inl f ↦ (
            let own = found_edge a.cells.now edges a.sorted.now c.requires.edges.sorted_of lead found c.in_ok-found.ensures f.0 f.1 f.2 in
            let same : e ≡ own.edge = same_place edges k e own.edge at (ap (slice_get edges) (sym f.3) ∙ own.at) in
            let x_at : slice_get items f.0 ≡ Some f.1 = ap (λ (l : List SortedEdge). slice_get l f.0) whole ∙ f.2 in
            c.loop-edge.invariant.followed f.0 f.1 e (let within : f.0 < length items = slice_get_within items f.0 f.1 x_at in omega arith) x_at
            (ap (λ (z : Edge). z.next) same ∙ sym own.next) (ap (λ (z : Edge). z.cells) same ∙ sym own.cells_is))
        | inr other ↦ subst (λ (own : List ℕ). IsFollowed c.loop-edge.trail.pairs a.pair.now.ahead own e) c.as_slice-lead.ensures (unmatched_followed c.loop-edge.trail.pairs a.pair.now.ahead lead e other)
      ];
    }

pub returns-in_err-found-clause-adds : goal.returns-in_err-found-clause-adds
returns-in_err-found-clause-adds g c = adds_none (IsMoveOf c.args.number) c.args.trail.now c.args.trail.now refl refl refl refl

pub returns-in_err-follow-clause-adds : goal.returns-in_err-follow-clause-adds
returns-in_err-follow-clause-adds g c =
    let a = c.args in
    adds_trans (IsMoveOf a.number) a.trail.now c.loop-edge.trail c.follow.new.trail c.loop-edge.invariant.adds
    (adds_as (IsOneOf _) (IsMoveOf a.number) c.loop-edge.trail c.follow.new.trail (move_origin a.number _) c.follow.ensures.adds)
