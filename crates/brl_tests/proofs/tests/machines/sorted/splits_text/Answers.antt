use Rattle.std.proofs.Common.{List, length, sym, ap, subst, arith}
use Rattle.std.specs.Prelude.{Contains}
use Rattle.brl_pairs.specs.declared.sorted.SortedEdge.{SortedEdge}
use Rattle.brl_tests.proofs.tests.machines.sorted.splits_text.Goals as goal

pub splits_of-requires-clause-places : goal.splits_of-requires-clause-places
splits_of-requires-clause-places c = λ x there.
    let below = c.in_ok-sorted.ensures.places x (subst (λ (l : List SortedEdge). Contains l x) c.as_slice-2.ensures.value there) in
    omega (arith, below, ap length c.as_slice.ensures.value, c.len-2.ensures)

pub earlier_splits-requires-clause-there : goal.earlier_splits-requires-clause-there
earlier_splits-requires-clause-there c =
    let x = c.in_ok-sorted.ensures.all c.in_ok-place.place (omega (arith, c.if-place-len.false, ap length c.as_slice.ensures.value, c.len.ensures)) in
    (x.0, subst (λ (l : List SortedEdge). Contains l x.0) (sym c.as_slice-3.ensures.value) x.1, x.2)
