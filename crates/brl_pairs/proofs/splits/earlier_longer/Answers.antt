use Rattle.std.proofs.Common.{◌≡◌, ◌+◌, ◌≤◌, ◌⊎◌, inl, inr, ℕ, List, length, Some, slice_get, false, true, nat_eq, sym, ◌∙◌, ap, subst, arith, true≢false}
use Rattle.std.specs.List.{starts_with}
use Rattle.brl_pairs.specs.Sorted.{BeginsWith, cells_of}
use Rattle.brl_pairs.specs.Splits.{AreWithin}
use Rattle.brl_pairs.specs.declared.sorted.SortedEdge.{SortedEdge}
use Rattle.brl_pairs.proofs.CellOrder.{begins_from_test, test_from_begins}
use Rattle.brl_pairs.proofs.SortedLaws.{edge_at, for_edge_at, is_at}
use Rattle.brl_pairs.proofs.SplitsLaws.{IsAdded, IsEarlierLonger, walk_end, walk_init, walk_step}
use Rattle.brl_pairs.proofs.splits.earlier_longer.Goals as goal
use Rattle.brl_pairs.proofs.splits.earlier_longer.Goals.{then-loop-next-test+else-begins_with, else-loop-next-test}

pub loop-next-init : goal.loop-next-init
loop-next-init c = record {
  low = omega arith;
  within = omega (arith, c.requires.within);
  found = λ y y_at. walk_init c.args.cells.now c.args.sorted.now c.requires.ascending c.args.limit c.args.position y y_at c.new-found.result.items c.new-found.ensures.items;
}

pub loop-next-preserved : goal.loop-next-preserved
loop-next-preserved c =
    let a = c.args in
    let n = c.loop-next.next in
    let x = edge_at a.sorted.now n in
    let here = edge_at a.sorted.now a.position in
    let here_at = is_at a.sorted.now a.position c.requires.within in
    let test : starts_with nat_eq (cells_of a.cells.now x) c.cells_of-own.result.now ≡ true = ap (λ (o : List ℕ). starts_with nat_eq o c.cells_of-own.result.now) (sym c.cells_of.ensures) ∙ sym c.begins_with.ensures ∙ c.if-begins_with.true in
    let begins : BeginsWith (cells_of a.cells.now x) (cells_of a.cells.now here) = subst (BeginsWith (cells_of a.cells.now x)) c.cells_of-own.ensures (begins_from_test (cells_of a.cells.now x) c.cells_of-own.result.now test) in
    let added : IsAdded x a.limit c.loop-next.found.items c.add_earlier.new.found.items = record { only = c.in_ok-add_earlier.ensures.only; kept = c.in_ok-add_earlier.ensures.kept; added = c.in_ok-add_earlier.ensures.added } in
    record {
      low = omega (arith, c.loop-next.invariant.low);
      within = omega (arith, c.loop-next-test.true);
      found = for_edge_at (λ (y : SortedEdge). AreWithin (IsEarlierLonger a.cells.now a.limit y) a.sorted.now (a.position + 1) (n + 1) c.add_earlier.new.found.items) a.sorted.now a.position c.requires.within
          (walk_step a.cells.now a.sorted.now c.requires.ascending a.limit a.position here here_at n x c.loop-next.invariant.low (is_at a.sorted.now n c.loop-next-test.true) begins c.loop-next.found.items c.add_earlier.new.found.items added
          (c.loop-next.invariant.found here here_at));
    }

pub returns : goal.returns
returns c =
    let a = c.args in
    let sorted = a.sorted.now in
    let n = c.loop-next.next in
    let here = edge_at sorted a.position in
    let here_at = is_at sorted a.position c.requires.within in
    let own = c.cells_of-own.result.now in
    let apart : (x : SortedEdge) → starts_with nat_eq (cells_of a.cells.now x) own ≡ false → BeginsWith (cells_of a.cells.now x) (cells_of a.cells.now here) → ⊥ =
    (λ x test b. true≢false (sym (test_from_begins (cells_of a.cells.now x) own (subst (BeginsWith (cells_of a.cells.now x)) (sym c.cells_of-own.ensures) b)) ∙ test)) in
    let stop : (length sorted ≤ n) ⊎ ((x : SortedEdge) → slice_get sorted n ≡ Some x → BeginsWith (cells_of a.cells.now x) (cells_of a.cells.now here) → ⊥) = elim c.loop-next-test.branch [
      | then-loop-next-test+else-begins_with w ↦ inr (for_edge_at (λ (x : SortedEdge). BeginsWith (cells_of a.cells.now x) (cells_of a.cells.now here) → ⊥) sorted n w.loop-next-test.true
          (apart (edge_at sorted n) (ap (λ (o : List ℕ). starts_with nat_eq o own) (sym w.cells_of.ensures) ∙ sym w.begins_with.ensures ∙ w.if-begins_with.false)))
      | else-loop-next-test w ↦ inl (omega (arith, w.loop-next-test.false))
    ] in
    for_edge_at (λ (y : SortedEdge). AreWithin (IsEarlierLonger a.cells.now a.limit y) sorted (a.position + 1) (length sorted) c.loop-next.found.items) sorted a.position c.requires.within
    (walk_end a.cells.now sorted c.requires.ascending a.limit a.position here here_at n c.loop-next.invariant.low c.loop-next.invariant.within stop c.loop-next.found.items (c.loop-next.invariant.found here here_at))
