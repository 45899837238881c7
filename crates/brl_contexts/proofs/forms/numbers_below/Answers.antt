use Rattle.std.proofs.Common.{◌≡◌, ◌∙◌, ◌+◌, ◌++◌, ◌∷◌, [], ℕ, ap, arith, sym}
use Rattle.std.specs.List.{range_with_len}
use Rattle.brl_contexts.proofs.Found.{counting_on}
use Rattle.brl_contexts.proofs.forms.numbers_below.Goals as goal

pub loop-number-preserved : goal.loop-number-preserved
loop-number-preserved c =
    let n = c.loop-number.number in
    let zero : 0 + n ≡ n = omega arith in
    c.in_ok-push.ensures.items
    ∙ ap (λ l. l ++ c.in_ok-as_u32.field-0 ∷ []) c.loop-number.invariant
    ∙ ap (λ (k : ℕ). range_with_len 0 n ++ k ∷ []) (c.in_ok-as_u32.ensures ∙ sym zero)
    ∙ sym (counting_on 0 n)
