use Rattle.std.proofs.Common.{◌∙◌, List, ℕ, get_or, subst, arith, take_all}
use Rattle.std.proofs.lemmas.Option.{slice_get-get_or}
use Rattle.brl_pairs.specs.Excused.{AreLookedUp}
use Rattle.brl_pairs.proofs.Excusing.{looked_up_too}
use Rattle.brl_pairs.proofs.rule_pairs.RulePairs.new.Goals as goal

pub loop-pair-preserved : goal.loop-pair-preserved
loop-pair-preserved c =
    let given = c.deref-pair-items.result.now in
    let n = c.loop-pair.pair-index in
    let pair = get_or given n (0, 0) in
    looked_up_too given n pair (slice_get-get_or given n (0, 0) (omega (arith, c.loop-pair-test.true))) c.loop-pair.set.keys c.insert_pair.new.set.keys c.loop-pair.rules.keys c.insert_rule.new.set.keys c.insert_rule-in-loop-pair.new.set.keys
    c.loop-pair.invariant c.in_ok-insert_pair.ensures c.in_ok-insert_rule.ensures c.in_ok-insert_rule-2.ensures

pub invariant_of-result : goal.invariant_of-result
invariant_of-result c =
    subst (λ (given : List (ℕ × ℕ)). AreLookedUp given c.loop-pair.set.keys c.loop-pair.rules.keys)
    (take_all c.loop-pair.pair-index c.deref-pair-items.result.now c.loop-pair-test.false ∙ c.deref-pair-items.ensures.value) c.loop-pair.invariant
