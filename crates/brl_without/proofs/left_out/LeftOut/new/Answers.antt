use Rattle.std.proofs.Common.{◌∙◌, List, ap, ℕ}
use Rattle.std.proofs.lemmas.List.{take_all}
use Rattle.brl_without.specs.LeftOut.{is_left_out}
use Rattle.brl_without.proofs.left_out.LeftOut.new.Goals as goal

pub invariant_of-result : goal.invariant_of-result
invariant_of-result c q =
    c.loop-c.invariant q
    ∙ ap (λ (cs : List ℕ). is_left_out cs q) (take_all c.loop-c.c-index c.deref-c-items.result.now c.loop-c-test.false ∙ c.deref-c-items.ensures.value)
