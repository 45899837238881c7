use Rattle.std.proofs.Common.{◌≡◌, ℕ, List, length, Some, slice_get, inl, inr, refl, sym, ◌∙◌, ap, subst, subst₂, arith}
use Rattle.std.specs.Global.{Vec}
use Rattle.std.proofs.lemmas.Option.{slice_get_read}
use Rattle.brl_pairs.specs.Sorted.{AreAscending}
use Rattle.brl_pairs.specs.Splits.{AreSplits}
use Rattle.brl_pairs.specs.declared.sorted.SortedEdge.{SortedEdge}
use Rattle.brl_pairs.proofs.Lists.{same_place}
use Rattle.brl_divergence.specs.Expanded.{AreStepsOf}
use Rattle.std.proofs.lemmas.Bool.{cases_eq}
use Rattle.brl_divergence.specs.Found.{AreSettledAt}
use Rattle.brl_divergence.proofs.Settling.{keeps_refl, keeps_trans, settled_at_more}
use Rattle.brl_divergence.proofs.Steps.{edge_within, step_within}
use Rattle.brl_divergence.proofs.explorer.Explorer.settle_state.Given.{Over}
use Rattle.brl_divergence.proofs.explorer.Explorer.settle_state.Goals.{After-len-count}
use Rattle.brl_divergence.proofs.explorer.Explorer.settle_state.Goals as goal

-- the kept edges of the state
sorted_at : (g : Over) (c : After-len-count g) → slice_get c.args.self.now.expanded.now.edges.items c.args.state ≡ Some c.index.result.now
sorted_at g c =
    let edges = c.args.self.now.expanded.now.edges.items in
    slice_get_read edges (length edges) c.args.state c.index.result.now refl c.requires.within c.index.ensures

-- and their rules
rules_at : (g : Over) (c : After-len-count g) → slice_get c.args.self.now.expanded.now.rules.items c.args.state ≡ Some c.index-2.result.now
rules_at g c =
    let rules = c.args.self.now.expanded.now.rules.items in
    slice_get_read rules (length rules) c.args.state c.index-2.result.now refl (omega (arith, c.requires.within, c.requires.sound.explored.ready.expanded.many)) c.index-2.ensures

-- the steps of the state
steps : (g : Over) (c : After-len-count g) → AreStepsOf (g.M.Machine.behaviour c.args.self.now.finder.now.machine.now) c.args.found.now.trail.states c.args.state c.args.self.now.expanded.now.cells c.as_slice-sorted.result.now c.index-2.result.now.items
steps g c =
    subst (λ (l : List SortedEdge). AreStepsOf (g.M.Machine.behaviour c.args.self.now.finder.now.machine.now) c.args.found.now.trail.states c.args.state c.args.self.now.expanded.now.cells l c.index-2.result.now.items)
    (sym c.as_slice-sorted.ensures.value)
    (c.requires.sound.explored.ready.expanded.each c.args.state c.index.result.now c.index-2.result.now (sorted_at g c) (rules_at g c))

pub loop-second-init : goal.loop-second-init
loop-second-init g c = record {
  sound = c.requires.sound;
  keeps = keeps_refl c.args.found.now;
  settled = λ i j less below. absurd (omega arith);
}

pub loop-second-preserved : goal.loop-second-preserved
loop-second-preserved g c =
    let m = g.M.Machine.behaviour c.args.self.now.finder.now.machine.now in
    let f = c.loop-second.found in
    let h = c.settle_place.new.found in
    let keeps = c.in_ok-settle_place.ensures.keeps in
    record {
      sound = c.in_ok-settle_place.ensures.sound;
      keeps = keeps_trans c.args.found.now f h c.loop-second.invariant.keeps keeps;
      settled = λ i j less below. elim (cases_eq j c.loop-second.second) [
        | inl here ↦ subst (AreSettledAt m h c.args.state i) (sym here) (c.in_ok-settle_place.ensures.settled i (omega (arith, less, here)))
        | inr other ↦ settled_at_more f h keeps m c.args.state i j (c.loop-second.invariant.settled i j less (omega (arith, below, other)))
      ];
    }

pub splits_of-requires-clause-ascending : goal.splits_of-requires-clause-ascending
splits_of-requires-clause-ascending g c =
    subst (λ (cells : List (List ℕ)). AreAscending cells c.as_slice-sorted.result.now) (sym c.as_slice-cells.ensures.members) (steps g (goal.at.splits_of-requires-clause-ascending g c).After-len-count).sorted_of.ascending

pub splits_of-requires-clause-places : goal.splits_of-requires-clause-places
splits_of-requires-clause-places g c x there =
    let a = c.args in
    let less = edge_within (g.M.Machine.behaviour a.self.now.finder.now.machine.now) a.found.now.trail.states a.state a.self.now.expanded.now.cells c.as_slice-sorted.result.now c.index-2.result.now.items
    (steps g (goal.at.splits_of-requires-clause-places g c).After-len-count) x there in
    omega (arith, less, c.len-count.ensures, c.index-2.result.now.ok.0)

pub settle_place-requires-clause-splits : goal.settle_place-requires-clause-splits
settle_place-requires-clause-splits g c sorted at =
    let e = c.args.self.now.expanded.now in
    let here = sorted_at g (goal.at.settle_place-requires-clause-splits g c).After-len-count in
    let same : c.index.result.now ≡ sorted = same_place e.edges.items c.args.state c.index.result.now sorted here at in
    let whole : c.as_slice-sorted.result.now ≡ sorted.items = c.as_slice-sorted.ensures.value ∙ ap (λ (v : Vec SortedEdge). v.items) same in
    subst₂ (λ (cells : List (List ℕ)) (l : List SortedEdge). AreSplits cells l c.in_ok-splits.splits) c.as_slice-cells.ensures.members whole c.in_ok-splits.ensures

pub settle_place-requires-clause-within : goal.settle_place-requires-clause-within
settle_place-requires-clause-within g c = record {
  there = c.requires.within;
  rules = c.index-2.result.now;
  at = rules_at g (goal.at.settle_place-requires-clause-within g c).After-len-count;
  within = omega (arith, c.loop-second-test.true, c.len-count.ensures, c.index-2.result.now.ok.0);
}

pub returns-clause-settled : goal.returns-clause-settled
returns-clause-settled g c i j less x y x_taken y_taken =
    let a = c.args in
    let m = g.M.Machine.behaviour a.self.now.finder.now.machine.now in
    let it = c.loop-second.found in
    let slice = c.as_slice-sorted.result.now in
    let rules = c.index-2.result.now.items in
    let kept = subst (λ (xs : List g.row.M-State.Denot). AreStepsOf m xs a.state a.self.now.expanded.now.cells slice rules) (sym c.loop-second.invariant.keeps.states)
    (steps g (goal.at.returns-clause-settled g c).After-len-count) in
    let within = step_within m it.trail.states a.state a.self.now.expanded.now.cells slice rules kept j y y_taken in
    c.loop-second.invariant.settled i j less (omega (arith, within, c.len-count.ensures, c.index-2.result.now.ok.0)) x y x_taken y_taken
