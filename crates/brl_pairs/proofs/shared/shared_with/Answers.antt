use Rattle.std.proofs.Common.{◌≡◌, ◌∙◌, ◌+◌, ◌++◌, ◌∷◌, [], ℕ, Bool, true, false, List, ap, length, slice_get, subst, sym, true≢false}
use Rattle.brl_pairs.proofs.Lists.{length_push}
use Rattle.brl_pairs.proofs.SharedLaws.{AreSharedSoFar, none_shared, one_alone, one_shared}
use Rattle.brl_pairs.proofs.SortedLaws.{edge_at, is_at}
use Rattle.brl_pairs.proofs.shared.shared_with.Goals.{then-is_shared, else-is_shared}
use Rattle.brl_pairs.proofs.shared.shared_with.Goals as goal

pub loop-edge-init : goal.loop-edge-init
loop-edge-init c = record {
  count = ap length c.in_ok-shared.ensures.items;
  so_far = subst (λ (l : List Bool). AreSharedSoFar c.args.sorted.now c.args.others.now l 0) (sym c.in_ok-shared.ensures.items) (none_shared c.args.sorted.now c.args.others.now);
}

pub loop-edge-preserved : goal.loop-edge-preserved
loop-edge-preserved c =
    let sorted = c.args.sorted.now in
    let others = c.args.others.now in
    let shared = c.loop-edge.shared.items in
    let passed = c.pass_before-next.result in
    let x = edge_at sorted c.loop-edge.edge-index in
    let x_at = ap (slice_get sorted) c.loop-edge.invariant.count ∙ is_at sorted c.loop-edge.edge-index c.loop-edge-test.true in
    let pass = c.pass_before-next.ensures in
    let is = c.in_ok-push.ensures.items in
    record {
      count = ap length is ∙ length_push shared c.is_like_at-is_shared.result ∙ ap (λ (n : ℕ). n + 1) c.loop-edge.invariant.count;
      so_far = elim c.if-is_shared.branch [
        | then-is_shared w ↦
            let items : c.push.new.self.items ≡ shared ++ true ∷ [] = is ∙ ap (λ (b : Bool). shared ++ b ∷ []) w.if-is_shared.true in
            subst (AreSharedSoFar sorted others c.push.new.self.items) (sym w.next-is)
            (subst (λ (l : List Bool). AreSharedSoFar sorted others l (passed + 1)) (sym items)
            (one_shared sorted others shared x c.loop-edge.next passed x_at pass.from pass.within pass.same c.loop-edge.invariant.so_far (c.is_like_at-is_shared.ensures.yes w.if-is_shared.true)))
        | else-is_shared w ↦
            let items : c.push.new.self.items ≡ shared ++ false ∷ [] = is ∙ ap (λ (b : Bool). shared ++ b ∷ []) w.if-is_shared.false in
            subst (AreSharedSoFar sorted others c.push.new.self.items) (sym w.next-is)
            (subst (λ (l : List Bool). AreSharedSoFar sorted others l passed) (sym items)
            (one_alone sorted others shared x c.loop-edge.next passed x_at pass.from pass.within pass.same c.loop-edge.invariant.so_far (λ at. true≢false (sym (c.is_like_at-is_shared.ensures.itself at) ∙ w.if-is_shared.false))))
      ];
    }
