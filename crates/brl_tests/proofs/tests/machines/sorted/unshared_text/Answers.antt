use Rattle.std.proofs.Common.{List, length, ap, subst, arith}
use Rattle.std.specs.Prelude.{Contains}
use Rattle.brl_pairs.specs.declared.sorted.SortedEdge.{SortedEdge}
use Rattle.brl_tests.proofs.tests.machines.sorted.unshared_text.Goals as goal

pub unshared_splits-requires-clause-places : goal.unshared_splits-requires-clause-places
unshared_splits-requires-clause-places c = λ x there.
    let below = c.in_ok-sorted.ensures.places x (subst (λ (l : List SortedEdge). Contains l x) c.as_slice-edges.ensures.value there) in
    omega (arith, below, ap length c.as_slice.ensures.value, c.len.ensures, c.in_ok-limit.ensures)
