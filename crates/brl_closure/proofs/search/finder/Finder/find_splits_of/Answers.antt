use Rattle.std.proofs.Common.{◌≡◌, ◌-◌, ◌<◌, ◌≤◌, length, slice_get, inl, inr, refl, sym, ap, ◌∙◌, arith}
use Rattle.std.proofs.lemmas.Bool.{cases_eq}
use Rattle.std.proofs.lemmas.Option.{slice_get_read, slice_get_within}
use Rattle.brl_pairs.proofs.Lists.{inside, same_place}
use Rattle.brl_pairs.proofs.Numbered.{contained}
use Rattle.brl_pairs.proofs.Unmatched.{match_back, match_or_not, unmatched_followed}
use Rattle.brl_closure.proofs.LeastRule.{found_of_earlier}
use Rattle.std.proofs.lemmas.List.{length-map}
use Rattle.brl_pairs.specs.Listed.{edge_of, edges_with}
use Rattle.brl_closure.proofs.Edges.{edges_more}
use Rattle.brl_closure.proofs.There.{followed_more}
use Rattle.brl_closure.proofs.Additions.{advances_refl, advances_trans}
use Rattle.brl_closure.proofs.search.finder.Finder.find_splits_of.Goals as goal

pub loop-left-init : goal.loop-left-init
loop-left-init g c = record {
  advances = advances_refl g.M.Machine.behaviour c.args.self.now c.args.trail.now c.requires.active;
  within = omega arith;
  followed = λ k s x y low at. absurd (let within : k < length c.in_ok-found.found.items = slice_get_within c.in_ok-found.found.items k s at in omega arith);
}

pub find_split-requires-clause-edges : goal.find_split-requires-clause-edges
find_split-requires-clause-edges g c =
    edges_more (g.M.Machine.behaviour c.args.self.now.machine.now) c.args.trail.now.states c.loop-left.trail.states c.loop-left.invariant.advances.1.states c.args.state.now.number (edges_with c.args.state.now.cells.now c.args.state.now.edges.now) c.requires.edges

pub earlier_splits-requires-clause-there : goal.earlier_splits-requires-clause-there
earlier_splits-requires-clause-there g c =
    let a = c.args in
    let e = inside (edges_with a.state.now.cells.now a.state.now.edges.now) a.second (omega (arith, c.requires.within, length-map a.state.now.edges.now (edge_of a.state.now.cells.now))) in
    c.requires.sorted.by_numbers.all a.second e.0 e.1

pub find_split-requires-clause-in_order : goal.find_split-requires-clause-in_order
find_split-requires-clause-in_order g c =
    let found = c.in_ok-found.found.items in
    let before : c.loop-left.left ≤ length found = c.loop-left.invariant.within in
    let one = slice_get_read found (length found) (c.loop-left.left - 1) c.index.result.now refl (omega (arith, before)) c.index.ensures in
    (c.in_ok-found.ensures.3.only c.index.result.now (contained found (c.loop-left.left - 1) c.index.result.now one)).2

pub loop-left-preserved : goal.loop-left-preserved
loop-left-preserved g c =
    let found = c.in_ok-found.found.items in
    let here = c.loop-left.left - 1 in
    let before : c.loop-left.left ≤ length found = c.loop-left.invariant.within in
    let one = slice_get_read found (length found) here c.index.result.now refl (omega (arith, before)) c.index.ensures in
    record {
      advances = advances_trans g.M.Machine.behaviour c.args.self.now c.args.trail.now c.loop-left.trail c.find_split.new.trail c.loop-left.invariant.advances c.in_ok-find_split.ensures.advances;
      within = omega (arith, before);
      followed = λ k s x y low at x_at y_at. elim (cases_eq k here) [
        | inl is ↦ (
            let same : c.index.result.now ≡ s = same_place found here c.index.result.now s one (ap (slice_get found) (sym is) ∙ at) in
            c.in_ok-find_split.ensures.followed x y (rw same x_at) y_at)
        | inr apart ↦ followed_more c.loop-left.trail.pairs c.find_split.new.trail.pairs c.in_ok-find_split.ensures.advances.1.pairs x.next x.cells y
            (c.loop-left.invariant.followed k s x y (omega (arith, low, apart)) at x_at y_at)
      ];
    }

pub returns-clause-followed : goal.returns-clause-followed
returns-clause-followed g c i x y less x_at y_at =
    let a = c.args in
    let those = c.in_ok-found.ensures in
    let found = found_of_earlier a.state.now.cells.now (edges_with a.state.now.cells.now a.state.now.edges.now) a.state.now.sorted.now c.requires.sorted a.second y y_at those.0 those.1 those.2 c.in_ok-found.found.items those.3 in
    elim (match_or_not y.cells x.cells) [
      | inl m ↦ (
          let f = found.all i x less x_at m in
          c.loop-left.invariant.followed f.0 f.1 x y (omega arith) f.2 (ap (slice_get (edges_with a.state.now.cells.now a.state.now.edges.now)) f.3 ∙ x_at) y_at)
      | inr other ↦ unmatched_followed c.loop-left.trail.pairs x.next x.cells y (λ m. other (match_back x.cells y.cells m))
    ]
