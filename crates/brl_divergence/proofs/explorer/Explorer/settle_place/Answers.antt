use Rattle.std.proofs.Common.{◌≡◌, ◌<◌, ℕ, List, length, Some, slice_get, inl, inr, refl, sym, ap, ◌∙◌, subst, subst₂, arith}
use Rattle.std.specs.Prelude.{Contains}
use Rattle.std.proofs.lemmas.Bool.{cases_eq}
use Rattle.std.proofs.lemmas.Option.{slice_get_read, slice_get_within}
use Rattle.brl_pairs.specs.Sorted.{AreAscending, cells_of}
use Rattle.brl_pairs.specs.Splits.{AreEarlier, AreSplits}
use Rattle.brl_pairs.specs.declared.sorted.SortedEdge.{SortedEdge}
use Rattle.brl_pairs.proofs.Lists.{same_place}
use Rattle.brl_pairs.proofs.Numbered.{contained}
use Rattle.brl_pairs.proofs.SortedLaws.{edge_at, is_at}
use Rattle.brl_divergence.specs.Expanded.{AreStepsOf}
use Rattle.brl_divergence.specs.Found.{AreSettledAt}
use Rattle.brl_divergence.proofs.Places.{settled_place}
use Rattle.brl_divergence.proofs.Settling.{keeps_refl, keeps_trans, settled_at_more}
use Rattle.brl_divergence.proofs.Steps.{own_edge, place_there}
use Rattle.brl_divergence.proofs.explorer.Explorer.settle_place.Given.{Over}
use Rattle.brl_divergence.proofs.explorer.Explorer.settle_place.Goals.{After-as_slice-sorted, After-index-2, In-loop-first}
use Rattle.brl_divergence.proofs.explorer.Explorer.settle_place.Goals as goal

-- the kept edges of the state
sorted_at : (g : Over) (c : After-as_slice-sorted g) → slice_get c.args.self.now.expanded.now.edges.items c.args.state ≡ Some c.index.result.now
sorted_at g c =
    let edges = c.args.self.now.expanded.now.edges.items in
    slice_get_read edges (length edges) c.args.state c.index.result.now refl c.requires.within.there c.index.ensures

-- the steps of the state
steps : (g : Over) (c : After-as_slice-sorted g) → AreStepsOf (g.M.Machine.behaviour c.args.self.now.finder.now.machine.now) c.args.found.now.trail.states c.args.state c.args.self.now.expanded.now.cells c.as_slice-sorted.result.now c.requires.within.rules.items
steps g c =
    subst (λ (l : List SortedEdge). AreStepsOf (g.M.Machine.behaviour c.args.self.now.finder.now.machine.now) c.args.found.now.trail.states c.args.state c.args.self.now.expanded.now.cells l c.requires.within.rules.items)
    (sym c.as_slice-sorted.ensures.value)
    (c.requires.sound.explored.ready.expanded.each c.args.state c.index.result.now c.requires.within.rules (sorted_at g c) c.requires.within.at)

-- its splits
splits : (g : Over) (c : After-as_slice-sorted g) → AreSplits c.args.self.now.expanded.now.cells c.as_slice-sorted.result.now c.args.splits.now
splits g c =
    subst (λ (l : List SortedEdge). AreSplits c.args.self.now.expanded.now.cells l c.args.splits.now) (sym c.as_slice-sorted.ensures.value) (c.requires.splits c.index.result.now (sorted_at g c))

-- its edge with the place
there : (g : Over) (c : After-as_slice-sorted g) → (x : SortedEdge) × Contains c.as_slice-sorted.result.now x × (x.place ≡ c.args.second)
there g c =
    place_there (g.M.Machine.behaviour c.args.self.now.finder.now.machine.now) c.args.found.now.trail.states c.args.state c.args.self.now.expanded.now.cells c.as_slice-sorted.result.now c.requires.within.rules.items (steps g c) c.args.second c.requires.within.within

pub earlier_splits-requires-clause-ascending : goal.earlier_splits-requires-clause-ascending
earlier_splits-requires-clause-ascending g c =
    subst (λ (cells : List (List ℕ)). AreAscending cells c.as_slice-sorted.result.now) (sym c.as_slice-cells.ensures.members) (steps g (goal.at.earlier_splits-requires-clause-ascending g c).After-as_slice-sorted).sorted_of.ascending

pub earlier_splits-requires-clause-splits : goal.earlier_splits-requires-clause-splits
earlier_splits-requires-clause-splits g c =
    subst (λ (cells : List (List ℕ)). AreSplits cells c.as_slice-sorted.result.now c.args.splits.now) (sym c.as_slice-cells.ensures.members) (splits g (goal.at.earlier_splits-requires-clause-splits g c).After-as_slice-sorted)

pub earlier_splits-requires-clause-there : goal.earlier_splits-requires-clause-there
earlier_splits-requires-clause-there g c = there g (goal.at.earlier_splits-requires-clause-there g c).After-as_slice-sorted

pub index-requires-2 : goal.index-requires-2
index-requires-2 g c =
    let here = (goal.at.index-requires-2 g c).After-as_slice-sorted in
    let own = own_edge c.args.self.now.expanded.now.cells c.as_slice-sorted.result.now c.args.splits.now (splits g here) c.args.second (there g here) in
    omega (arith, own.0, c.args.splits.now.positions.ok.0)

-- the edge at the position of the place
own : (g : Over) (c : After-index-2 g) → AreSplits c.args.self.now.expanded.now.cells c.as_slice-sorted.result.now c.args.splits.now → (x : SortedEdge) × Contains c.as_slice-sorted.result.now x × (x.place ≡ c.args.second)
    → (y : SortedEdge) × (slice_get c.as_slice-sorted.result.now c.index-2.result.now ≡ Some y) × (y.place ≡ c.args.second)
own g c are x =
    let positions = c.args.splits.now.positions.items in
    let edge = own_edge c.args.self.now.expanded.now.cells c.as_slice-sorted.result.now c.args.splits.now are c.args.second x in
    edge.1 c.index-2.result.now (slice_get_read positions (length positions) c.args.second c.index-2.result.now refl edge.0 c.index-2.ensures)

-- it is what is read
own_is : (g : Over) (c : After-index-2 g) → AreSplits c.args.self.now.expanded.now.cells c.as_slice-sorted.result.now c.args.splits.now → (x : SortedEdge) × Contains c.as_slice-sorted.result.now x × (x.place ≡ c.args.second)
    → (slice_get c.as_slice-sorted.result.now c.index-2.result.now ≡ Some (edge_at c.as_slice-sorted.result.now c.index-2.result.now)) × ((edge_at c.as_slice-sorted.result.now c.index-2.result.now).place ≡ c.args.second)
own_is g c are x =
    let slice = c.as_slice-sorted.result.now in
    let k = c.index-2.result.now in
    let y = own g c are x in
    let at = is_at slice k (slice_get_within slice k y.0 y.1) in
    let same : y.0 ≡ edge_at slice k = same_place slice k y.0 (edge_at slice k) y.1 at in
    (at, ap (λ (z : SortedEdge). z.place) (sym same) ∙ y.2)

-- an edge that was found is one of the state's, and its place is earlier
earlier : (g : Over) (c : In-loop-first g) → Contains c.as_slice-sorted.result.now (edge_at c.as_slice-first-items.result.now c.loop-first.first-index) × ((edge_at c.as_slice-first-items.result.now c.loop-first.first-index).place < c.args.second)
earlier g c =
    let items = c.as_slice-first-items.result.now in
    let k = c.loop-first.first-index in
    let found = c.in_ok-earlier.earlier.items in
    let at : slice_get found k ≡ Some (edge_at items k) = ap (λ (l : List SortedEdge). slice_get l k) (sym c.as_slice-first-items.ensures.value) ∙ is_at items k c.loop-first-test.true in
    let one = c.in_ok-earlier.ensures.3.only (edge_at items k) (contained found k (edge_at items k) at) in
    (one.0, one.2)

pub bounds-sorted-index : goal.bounds-sorted-index
bounds-sorted-index g c =
    let here = goal.at.bounds-sorted-index g c in
    let y = own g here.After-index-2 (splits g here.After-as_slice-sorted) (there g here.After-as_slice-sorted) in
    slice_get_within c.as_slice-sorted.result.now c.index-2.result.now y.0 y.1

pub loop-first-init : goal.loop-first-init
loop-first-init g c = record {
  sound = c.requires.sound;
  keeps = keeps_refl c.args.found.now;
  settled = λ k x below. absurd (omega arith);
}

pub settle_split-requires-clause-first : goal.settle_split-requires-clause-first
settle_split-requires-clause-first g c =
    let here = goal.at.settle_split-requires-clause-first g c in
    record {
      sorted = c.index.result.now;
      at = sorted_at g here.After-as_slice-sorted;
      one = subst (λ (l : List SortedEdge). Contains l (edge_at c.as_slice-first-items.result.now c.loop-first.first-index)) c.as_slice-sorted.ensures.value (earlier g here.In-loop-first).0;
    }

pub settle_split-requires-clause-second : goal.settle_split-requires-clause-second
settle_split-requires-clause-second g c =
    let here = goal.at.settle_split-requires-clause-second g c in
    let slice = c.as_slice-sorted.result.now in
    let k = c.index-2.result.now in
    record {
      sorted = c.index.result.now;
      at = sorted_at g here.After-as_slice-sorted;
      one = subst (λ (l : List SortedEdge). Contains l (edge_at slice k)) c.as_slice-sorted.ensures.value
          (contained slice k (edge_at slice k) (own_is g here.After-index-2 (splits g here.After-as_slice-sorted) (there g here.After-as_slice-sorted)).0);
    }

pub settle_split-requires-clause-in_order : goal.settle_split-requires-clause-in_order
settle_split-requires-clause-in_order g c =
    let here = goal.at.settle_split-requires-clause-in_order g c in
    let one = (earlier g here.In-loop-first).1 in
    let other = (own_is g here.After-index-2 (splits g here.After-as_slice-sorted) (there g here.After-as_slice-sorted)).1 in
    subst (λ (n : ℕ). (edge_at c.as_slice-first-items.result.now c.loop-first.first-index).place < n) (sym other) one

pub loop-first-preserved : goal.loop-first-preserved
loop-first-preserved g c =
    let at_hand = goal.at.loop-first-preserved g c in
    let m = g.M.Machine.behaviour c.args.self.now.finder.now.machine.now in
    let f = c.loop-first.found in
    let h = c.settle_split.new.found in
    let keeps = c.in_ok-settle_split.ensures.keeps in
    let items = c.as_slice-first-items.result.now in
    let other = (own_is g at_hand.After-index-2 (splits g at_hand.After-as_slice-sorted) (there g at_hand.After-as_slice-sorted)).1 in
    record {
      sound = c.in_ok-settle_split.ensures.sound;
      keeps = keeps_trans c.args.found.now f h c.loop-first.invariant.keeps keeps;
      settled = λ k x below at. elim (cases_eq k c.loop-first.first-index) [
        | inl here ↦ (
            let same : edge_at items c.loop-first.first-index ≡ x = same_place items c.loop-first.first-index (edge_at items c.loop-first.first-index) x (is_at items c.loop-first.first-index c.loop-first-test.true) (ap (slice_get items) (sym here) ∙ at) in
            subst₂ (AreSettledAt m h c.args.state) (ap (λ (z : SortedEdge). z.place) same) other c.in_ok-settle_split.ensures.settled)
        | inr apart ↦ settled_at_more f h keeps m c.args.state x.place c.args.second (c.loop-first.invariant.settled k x (omega (arith, below, apart)) at)
      ];
    }

pub returns-clause-settled : goal.returns-clause-settled
returns-clause-settled g c =
    let a = c.args in
    let m = g.M.Machine.behaviour a.self.now.finder.now.machine.now in
    let it = c.loop-first.found in
    let slice = c.as_slice-sorted.result.now in
    let items = c.as_slice-first-items.result.now in
    let found = c.in_ok-earlier.earlier.items in
    let kept = subst (λ (xs : List g.row.M-State.Denot). AreStepsOf m xs a.state a.self.now.expanded.now.cells slice c.requires.within.rules.items) (sym c.loop-first.invariant.keeps.states)
    (steps g (goal.at.returns-clause-settled g c).After-as_slice-sorted) in
    settled_place m it a.state a.self.now.expanded.now.cells slice c.requires.within.rules.items kept a.second found
    (subst (λ (cells : List (List ℕ)). (y : SortedEdge) × Contains slice y × (y.place ≡ a.second) × AreEarlier cells slice (cells_of cells y) a.second found) c.as_slice-cells.ensures.members c.in_ok-earlier.ensures)
    (λ k x at. (
    let x_at : slice_get items k ≡ Some x = ap (λ (l : List SortedEdge). slice_get l k) c.as_slice-first-items.ensures.value ∙ at in
    let within : k < length items = slice_get_within items k x x_at in
    c.loop-first.invariant.settled k x (omega (arith, within)) x_at))
