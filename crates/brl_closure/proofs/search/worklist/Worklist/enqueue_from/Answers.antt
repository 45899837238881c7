use Rattle.std.proofs.Common.{ℕ, ◌∷◌, ◌∙◌, get_or, length, Some, inl, inr, refl, sym, ap, subst, arith}
use Rattle.std.specs.BinaryHeap.{heap_items}
use Rattle.std.proofs.lemmas.Bool.{cases_eq}
use Rattle.std.specs.List.Sorted.{IsPermutation}
use Rattle.brl_pairs.specs.Body.{NumberPair}
use Rattle.brl_closure.specs.Worklist.{IsQueued}
use Rattle.brl_closure.proofs.Queue.{queued_more, queued_new, item_pushed}
use Rattle.brl_closure.proofs.search.worklist.Worklist.enqueue_from.Goals as goal
use Rattle.brl_pairs.proofs.Lists.{read_at}

pub loop-number-preserved : goal.loop-number-preserved
loop-number-preserved g c =
    let read = c.index-as_slice-number.result in
    let pair = get_or c.as_slice.result.now c.loop-number.number read in
    let at = read_at c.as_slice.result.now c.args.pairs.now c.loop-number.number read c.as_slice.ensures.members (omega (arith, ap length c.as_slice.ensures.members)) c.index-as_slice-number.is ∙ ap (λ (p : NumberPair). Some p) c.index-as_slice-number.is in
    let before = heap_items c.loop-number.self.queue in
    let after = heap_items c.push.new.self in
    let same : IsPermutation (record { 0 = (pair.behind, c.loop-number.number) } ∷ before) after = c.in_ok-push.ensures.permutation in
    let now = c.loop-number.invariant in
    record {
      cells = now.cells;
      parts = now.parts;
      expanded = now.expanded;
      new = λ n low high. elim (cases_eq n c.loop-number.number) [
        | inl here ↦ subst (λ (k : ℕ). IsQueued k after) (sym here) (queued_new pair.behind c.loop-number.number before after same)
        | inr other ↦ queued_more _ before after same n (now.new n low (omega arith))
      ];
      old = λ n h. queued_more _ before after same n (now.old n h);
      items = λ h. item_pushed c.args.pairs.now pair.behind c.loop-number.number before after same pair at refl (now.items h);
      count = omega (arith, now.count, c.in_ok-push.ensures.len);
    }
