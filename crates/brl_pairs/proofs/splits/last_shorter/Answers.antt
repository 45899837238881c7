use Rattle.std.proofs.Common.{◌≡◌, ◌+◌, ◌-◌, ◌≤◌, ℕ, List, get_or, Some, slice_get, false, true, nat_eq, sym, ◌∙◌, ap, subst, arith, true≢false}
use Rattle.std.specs.List.{starts_with}
use Rattle.brl_pairs.specs.Sorted.{BeginsWith, cells_of}
use Rattle.brl_pairs.specs.Splits.{IsLastShorter}
use Rattle.brl_pairs.specs.declared.sorted.SortedEdge.{SortedEdge}
use Rattle.brl_pairs.proofs.CellOrder.{begins_from_test, test_from_begins}
use Rattle.brl_pairs.proofs.SortedLaws.{edge_at, for_edge_at, is_at}
use Rattle.brl_pairs.proofs.SplitsLaws.{HasComeTo, NoneBegins, next_before, pass_by}
use Rattle.brl_pairs.proofs.splits.last_shorter.Goals.{At-loop-last}
use Rattle.brl_pairs.proofs.splits.last_shorter.Goals as goal

-- where the walk stops
stopped : (c : At-loop-last) → ((k : ℕ) (x : SortedEdge) → c.loop-last.last ≡ k + 1 → slice_get c.args.sorted.now k ≡ Some x → BeginsWith c.cells_of-own.result.now (cells_of c.args.cells.now x))
    → (x : SortedEdge) → slice_get c.args.sorted.now c.args.position ≡ Some x → IsLastShorter c.args.cells.now c.args.sorted.now c.args.position (cells_of c.args.cells.now x) c.loop-last.last
stopped c begins =
    let a = c.args in
    for_edge_at (λ (x : SortedEdge). IsLastShorter a.cells.now a.sorted.now a.position (cells_of a.cells.now x) c.loop-last.last) a.sorted.now a.position c.requires.within
    (subst (λ (own : List ℕ). IsLastShorter a.cells.now a.sorted.now a.position own c.loop-last.last) c.cells_of-own.ensures
    (record { before = c.loop-last.invariant.before; begins = begins; others = c.loop-last.invariant.others }))

pub loop-last-preserved : goal.loop-last-preserved
loop-last-preserved c =
    let a = c.args in
    let own = c.cells_of-own.result.now in
    let last = c.loop-last.last in
    let x = edge_at a.sorted.now (last - 1) in
    let low : last ≤ a.position = c.loop-last.invariant.before in
    let walk : HasComeTo a.cells.now a.sorted.now a.shorter.now a.position last = record { known = c.requires.shorter; within = c.requires.within; low = low; some = omega arith; listed = omega (arith, low, c.requires.known) } in
    let test : starts_with nat_eq own (cells_of a.cells.now x) ≡ false = ap (starts_with nat_eq own) (sym c.cells_of.ensures) ∙ sym c.begins_with.ensures ∙ c.if-not-begins_with.true in
    let other : BeginsWith own (cells_of a.cells.now x) → ⊥ = (λ b. true≢false (sym (test_from_begins own (cells_of a.cells.now x) b) ∙ test)) in
    record {
      before = next_before a.cells.now a.sorted.now c.requires.ascending walk;
      others = subst (NoneBegins a.cells.now a.sorted.now (get_or a.shorter.now (last - 1) 0) a.position) (sym c.cells_of-own.ensures)
          (pass_by a.cells.now a.sorted.now c.requires.ascending walk (edge_at a.sorted.now a.position) (is_at a.sorted.now a.position c.requires.within)
          (subst (λ (o : List ℕ). BeginsWith o (cells_of a.cells.now x) → ⊥) c.cells_of-own.ensures other)
          (subst (NoneBegins a.cells.now a.sorted.now last a.position) c.cells_of-own.ensures c.loop-last.invariant.others));
    }

pub returns-else-not-begins_with : goal.returns-else-not-begins_with
returns-else-not-begins_with c =
    let a = c.args in
    let own = c.cells_of-own.result.now in
    let x = edge_at a.sorted.now (c.loop-last.last - 1) in
    let low : c.loop-last.last ≤ a.position = c.loop-last.invariant.before in
    let test : starts_with nat_eq own (cells_of a.cells.now x) ≡ true = ap (starts_with nat_eq own) (sym c.cells_of.ensures) ∙ sym c.begins_with.ensures ∙ c.if-not-begins_with.false in
    stopped (goal.at.returns-else-not-begins_with c).At-loop-last
    (λ k z is z_at.
    let here : c.loop-last.last - 1 ≡ k = omega (arith, is) in
    for_edge_at (λ (w : SortedEdge). BeginsWith own (cells_of a.cells.now w)) a.sorted.now (c.loop-last.last - 1) (omega (arith, low, is, c.requires.within)) (begins_from_test own (cells_of a.cells.now x) test) z
    (ap (slice_get a.sorted.now) here ∙ z_at))

pub returns-after-loop-last : goal.returns-after-loop-last
returns-after-loop-last c = stopped (goal.at.returns-after-loop-last c).At-loop-last (λ k z is. absurd (omega (arith, is)))
