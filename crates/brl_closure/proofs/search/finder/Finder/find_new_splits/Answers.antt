use Rattle.std.proofs.Common.{◌≡◌, ◌<◌, ◌∙◌, ℕ, List, Some, length, slice_get, inl, inr, ap, sym, subst, arith}
use Rattle.std.proofs.lemmas.Bool.{cases_eq}
use Rattle.std.proofs.lemmas.List.{length-map}
use Rattle.std.proofs.lemmas.Option.{slice_get_within}
use Rattle.brl_pairs.specs.Listed.{edge_of, edges_with}
use Rattle.brl_pairs.specs.Shared.{AreUnsharedSplits}
use Rattle.brl_pairs.specs.declared.shared.TwoPlaces.{TwoPlaces}
use Rattle.brl_pairs.proofs.Lists.{same_place}
use Rattle.brl_closure.proofs.Additions.{advances_refl, advances_trans}
use Rattle.brl_closure.proofs.Edges.{edges_more}
use Rattle.brl_closure.proofs.SharedSplits.{IsFollowedSplit, all_followed, followed_split_more, known_more, places_within, two_at, two_is_at}
use Rattle.brl_closure.proofs.search.finder.Finder.find_new_splits.Goals as goal

pub unshared_splits-requires-clause-places : goal.unshared_splits-requires-clause-places
unshared_splits-requires-clause-places g c = λ x there.
    let own = c.requires.sorted.by_numbers.only x there in
    let edges = edges_with c.args.state.now.cells.now c.args.state.now.edges.now in
    let inside : x.place < length edges = slice_get_within edges x.place own.edge own.at in
    omega (arith, inside, c.in_ok-limit.ensures, length-map c.args.state.now.edges.now (edge_of c.args.state.now.cells.now))

pub loop-split-init : goal.loop-split-init
loop-split-init g c = record {
  advances = advances_refl g.M.Machine.behaviour c.args.self.now c.args.trail.now c.requires.active;
  followed = λ n split less at. absurd (omega arith);
}

pub find_split-requires-clause-edges : goal.find_split-requires-clause-edges
find_split-requires-clause-edges g c =
    edges_more (g.M.Machine.behaviour c.args.self.now.machine.now) c.args.trail.now.states c.loop-split.trail.states c.loop-split.invariant.advances.1.states c.args.state.now.number (edges_with c.args.state.now.cells.now c.args.state.now.edges.now) c.requires.edges

pub find_split-requires-clause-in_order : goal.find_split-requires-clause-in_order
find_split-requires-clause-in_order g c =
    let a = c.args.state.now in
    let are = subst (AreUnsharedSplits a.cells.now a.sorted.now c.args.shared.now) (sym c.as_slice-split-items.ensures.value) c.in_ok-splits.ensures in
    (places_within a.cells.now (edges_with a.cells.now a.edges.now) a.sorted.now c.requires.sorted c.args.shared.now c.as_slice-split-items.result.now are c.loop-split.split-index c.loop-split-test.true).0

pub find_split-requires-clause-within : goal.find_split-requires-clause-within
find_split-requires-clause-within g c =
    let a = c.args.state.now in
    let are = subst (AreUnsharedSplits a.cells.now a.sorted.now c.args.shared.now) (sym c.as_slice-split-items.ensures.value) c.in_ok-splits.ensures in
    let less = (places_within a.cells.now (edges_with a.cells.now a.edges.now) a.sorted.now c.requires.sorted c.args.shared.now c.as_slice-split-items.result.now are c.loop-split.split-index c.loop-split-test.true).1 in
    omega (arith, less, length-map c.args.state.now.edges.now (edge_of c.args.state.now.cells.now))

pub loop-split-preserved : goal.loop-split-preserved
loop-split-preserved g c = record {
  advances = advances_trans g.M.Machine.behaviour c.args.self.now c.args.trail.now c.loop-split.trail c.find_split.new.trail c.loop-split.invariant.advances c.in_ok-find_split.ensures.advances;
  followed = λ n split less at. elim (cases_eq n c.loop-split.split-index) [
    | inl here ↦
        let items = c.as_slice-split-items.result.now in
        let same : two_at items c.loop-split.split-index ≡ split = same_place items c.loop-split.split-index (two_at items c.loop-split.split-index) split (two_is_at items c.loop-split.split-index c.loop-split-test.true) (ap (slice_get items) (sym here) ∙ at) in
        subst (IsFollowedSplit c.find_split.new.trail.pairs (edges_with c.args.state.now.cells.now c.args.state.now.edges.now)) same (λ e f e_at f_at. c.in_ok-find_split.ensures.followed e f e_at f_at)
    | inr other ↦ followed_split_more c.loop-split.trail.pairs c.find_split.new.trail.pairs c.in_ok-find_split.ensures.advances.1.pairs (edges_with c.args.state.now.cells.now c.args.state.now.edges.now) split
        (c.loop-split.invariant.followed n split (omega (arith, less, other)) at)
  ];
}

pub returns-clause-expanded : goal.returns-clause-expanded
returns-clause-expanded g c =
    let a = c.args.state.now in
    let edges = edges_with a.cells.now a.edges.now in
    let items = c.as_slice-split-items.result.now in
    let are : AreUnsharedSplits a.cells.now a.sorted.now c.args.shared.now items = subst (AreUnsharedSplits a.cells.now a.sorted.now c.args.shared.now) (sym c.as_slice-split-items.ensures.value) c.in_ok-splits.ensures in
    record {
      edges = edges;
      are_edges = edges_more (g.M.Machine.behaviour c.args.self.now.machine.now) c.args.trail.now.states c.loop-split.trail.states c.loop-split.invariant.advances.1.states a.number edges c.requires.edges;
      splits = all_followed c.loop-split.trail.pairs a.cells.now edges a.sorted.now c.requires.sorted c.args.shared.now c.requires.count items are
          (known_more c.args.trail.now.pairs c.loop-split.trail.pairs c.loop-split.invariant.advances.1.pairs edges a.sorted.now c.args.shared.now c.requires.known)
          (λ n split at. c.loop-split.invariant.followed n split (let less = slice_get_within items n split at in omega (arith, less)) at);
    }
