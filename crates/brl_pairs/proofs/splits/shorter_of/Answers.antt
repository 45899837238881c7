use Rattle.std.proofs.Common.{◌≡◌, ◌+◌, ℕ, List, inl, inr, length, slice_get, sym, ◌∙◌, ap, subst}
use Rattle.brl_pairs.specs.Sorted.{cells_of}
use Rattle.brl_pairs.specs.Splits.{IsLastShorter}
use Rattle.brl_pairs.proofs.Lists.{length_push, push_cases}
use Rattle.brl_pairs.proofs.splits.shorter_of.Goals as goal

pub loop-position-preserved : goal.loop-position-preserved
loop-position-preserved c =
    let a = c.args in
    let old = c.loop-position.shorter.items in
    let v = c.in_ok-number.number in
    let is = c.in_ok-push.ensures.items in
    record {
      many = ap length is ∙ length_push old v ∙ ap (λ (n : ℕ). n + 1) c.loop-position.invariant.many;
      shorter = λ k n x x_at n_at. elim (push_cases old v k n (ap (λ (l : List ℕ). slice_get l k) (sym is) ∙ n_at)) [
        | inl before ↦ c.loop-position.invariant.shorter k n x x_at before
        | inr last ↦ (
            let here : k ≡ c.loop-position.position = last.0 ∙ c.loop-position.invariant.many in
            let value : c.last_shorter-last.result ≡ n = sym c.in_ok-number.ensures ∙ last.1 in
            subst (λ (j : ℕ). IsLastShorter a.cells.now a.sorted.now j (cells_of a.cells.now x) n) (sym here)
            (subst (IsLastShorter a.cells.now a.sorted.now c.loop-position.position (cells_of a.cells.now x)) value (c.last_shorter-last.ensures x (ap (slice_get a.sorted.now) (sym here) ∙ x_at))))
      ];
    }
