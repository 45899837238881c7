use Rattle.std.proofs.Common.{List, ℕ, sym, ◌∙◌, ap, subst, subst₂}
use Rattle.std.specs.Prelude.{Contains}
use Rattle.std.proofs.lemmas.Result.{IfOk-weaker}
use Rattle.brl_pairs.specs.Sorted.{IsSortedOf, cells_of}
use Rattle.brl_pairs.specs.Splits.{AreEarlier, AreSplits}
use Rattle.brl_pairs.specs.declared.sorted.SortedEdge.{SortedEdge}
use Rattle.brl_pairs.proofs.Lists.{inside}
use Rattle.brl_closure.specs.Sorted.{SortedView}
use Rattle.brl_closure.proofs.LeastRule.{found_of_earlier}
use Rattle.brl_closure.proofs.check.sorted.Sorted.earlier.Goals as goal

pub earlier_splits-requires-clause-ascending : goal.earlier_splits-requires-clause-ascending
earlier_splits-requires-clause-ascending c = rw (c.as_slice.ensures.members, c.as_slice-2.ensures.value) c.self.invariant.ascending

pub earlier_splits-requires-clause-splits : goal.earlier_splits-requires-clause-splits
earlier_splits-requires-clause-splits c =
    subst₂ (λ (own : List (List ℕ)) (sorted : List SortedEdge). AreSplits own sorted c.args.splits.now) (sym (ap (λ (v : SortedView). v.cells) c.self.view_is) ∙ sym c.as_slice.ensures.members)
    (sym (ap (λ (v : SortedView). v.sorted) c.self.view_is) ∙ sym c.as_slice-2.ensures.value)
    c.requires.splits

pub earlier_splits-requires-clause-there : goal.earlier_splits-requires-clause-there
earlier_splits-requires-clause-there c =
    let s = c.self.inside in
    let sorted = subst (λ (v : SortedView). IsSortedOf s.cells.now v.edges s.sorted.items) c.self.view_is c.self.invariant in
    let e = inside c.args.self.now.edges c.args.place c.requires.within in
    let x = sorted.by_numbers.all c.args.place e.0 e.1 in
    (x.0, subst (λ (l : List SortedEdge). Contains l x.0) (sym c.as_slice-2.ensures.value) x.1, x.2)

pub returns : goal.returns
returns c =
    let s = c.self.inside in
    let sorted = subst (λ (v : SortedView). IsSortedOf s.cells.now v.edges s.sorted.items) c.self.view_is c.self.invariant in
    IfOk-weaker c.earlier_splits.result _ _
    (λ found those e at. found_of_earlier s.cells.now c.args.self.now.edges s.sorted.items sorted c.args.place e at those.0
    (subst (λ (l : List SortedEdge). Contains l those.0) c.as_slice-2.ensures.value those.1) those.2 found.items
    (subst₂ (λ (own : List (List ℕ)) (l : List SortedEdge). AreEarlier own l (cells_of own those.0) c.args.place found.items) c.as_slice.ensures.members c.as_slice-2.ensures.value those.3))
    c.earlier_splits.ensures
