use Rattle.std.proofs.Common.{◌<◌, length, slice_get, inl, inr, sym, ap, ◌∙◌, arith}
use Rattle.std.proofs.lemmas.Bool.{cases_eq}
use Rattle.std.proofs.lemmas.Option.{slice_get_within}
use Rattle.std.proofs.lemmas.List.{length-map}
use Rattle.brl_pairs.specs.Listed.{edge_of, edges_with}
use Rattle.brl_closure.proofs.Edges.{edges_more}
use Rattle.brl_closure.proofs.There.{followed_more}
use Rattle.brl_closure.proofs.Additions.{advances_refl, advances_trans}
use Rattle.brl_closure.proofs.search.finder.Finder.find_splits.Goals as goal

pub loop-second-init : goal.loop-second-init
loop-second-init g c = record {
  advances = advances_refl g.M.Machine.behaviour c.args.self.now c.args.trail.now c.requires.active;
  followed = λ i j x y less below. absurd (omega arith);
}

pub find_splits_of-requires-clause-edges : goal.find_splits_of-requires-clause-edges
find_splits_of-requires-clause-edges g c =
    edges_more (g.M.Machine.behaviour c.args.self.now.machine.now) c.args.trail.now.states c.loop-second.trail.states c.loop-second.invariant.advances.1.states c.args.state.now.number (edges_with c.args.state.now.cells.now c.args.state.now.edges.now) c.requires.edges

pub loop-second-preserved : goal.loop-second-preserved
loop-second-preserved g c = record {
  advances = advances_trans g.M.Machine.behaviour c.args.self.now c.args.trail.now c.loop-second.trail c.find_splits_of.new.trail c.loop-second.invariant.advances c.in_ok-find_splits_of.ensures.advances;
  followed = λ i j x y less below x_at y_at. elim (cases_eq j c.loop-second.second) [
    | inl here ↦ c.in_ok-find_splits_of.ensures.followed i x y (omega arith) x_at (ap (slice_get (edges_with c.args.state.now.cells.now c.args.state.now.edges.now)) (sym here) ∙ y_at)
    | inr other ↦ followed_more c.loop-second.trail.pairs c.find_splits_of.new.trail.pairs c.in_ok-find_splits_of.ensures.advances.1.pairs x.next x.cells y
        (c.loop-second.invariant.followed i j x y less (omega arith) x_at y_at)
  ];
}

pub returns-clause-expanded : goal.returns-clause-expanded
returns-clause-expanded g c = record {
  edges = (edges_with c.args.state.now.cells.now c.args.state.now.edges.now);
  are_edges = edges_more (g.M.Machine.behaviour c.args.self.now.machine.now) c.args.trail.now.states c.loop-second.trail.states c.loop-second.invariant.advances.1.states c.args.state.now.number (edges_with c.args.state.now.cells.now c.args.state.now.edges.now) c.requires.edges;
  splits = λ i j x y less x_at y_at.
      c.loop-second.invariant.followed i j x y less (let within : j < length (edges_with c.args.state.now.cells.now c.args.state.now.edges.now) = slice_get_within (edges_with c.args.state.now.cells.now c.args.state.now.edges.now) j y y_at in omega (arith, within, length-map c.args.state.now.edges.now (edge_of c.args.state.now.cells.now))) x_at y_at;
}

pub splits_of-requires-clause-places : goal.splits_of-requires-clause-places
splits_of-requires-clause-places g c = λ x there.
    let own = c.requires.sorted.by_numbers.only x there in
    let within : x.place < length (edges_with c.args.state.now.cells.now c.args.state.now.edges.now) = slice_get_within (edges_with c.args.state.now.cells.now c.args.state.now.edges.now) x.place own.edge own.at in
    omega (arith, within, length-map c.args.state.now.edges.now (edge_of c.args.state.now.cells.now))
