use Rattle.std.proofs.Common.{◌≡◌, ◌∙◌, [], ◌∷◌, ◌++◌, Vec, Global, ap, append-nil, arith, get_or, length, sym}
use Rattle.brl_pairs.specs.declared.step.Step.{Step}
use Rattle.brl_rules.specs.TableView.{TableView}
use Rattle.brl_states.specs.declared.dues_state.DuesState.{DuesState}
use Rattle.brl_dues.specs.Letters.{own_step, rule_step, steps_found, with_rule}
use Rattle.brl_dues.proofs.Loops.{not-taken, rules-all, rules-next}
use Rattle.brl_dues.proofs.steps.list_letter_steps.Goals as goal
use Rattle.brl_dues.proofs.steps.list_letter_steps.Goals.{then-may_take+in_ok-push_taken, else-may_take}

pub loop-number-init : goal.loop-number-init
loop-number-init c = ap (λ l. l ++ steps_found c.args.table.now c.args.state.now 0 c.args.table.now.rules (c.args.letter ∷ [])) c.new-listed.ensures.items

pub loop-number-preserved : goal.loop-number-preserved
loop-number-preserved c =
    let t = c.args.table.now in
    let s = c.args.state.now in
    let r = c.rule-item.result in
    let n = c.loop-number.number in
    let l = c.loop-number.letter in
    let listed = c.loop-number.listed.items in
    let rules = c.rules_in_rank-rule-items.ensures.rules ∙ ap (λ (x : TableView). x.rules) c.table.ensures in
    let both : (c.if-may_take.letter ≡ with_rule s.before r l) × (c.if-may_take.listed.items ≡ listed ++ rule_step t s n r l) =
    elim c.if-may_take.branch [
      | then-may_take+in_ok-push_taken w ↦ (w.letter-is ∙ w.in_ok-push_taken.ensures.letter, ap (λ (v : Vec (Step DuesState) Global). v.items) w.listed-is ∙ w.in_ok-push_taken.ensures.listed)
      | else-may_take w ↦ not-taken t s n r l c.if-may_take.letter listed c.if-may_take.listed.items (sym c.may_take.ensures ∙ w.if-may_take.false) w.letter-is (ap (λ (v : Vec (Step DuesState) Global). v.items) w.listed-is)
    ] in
    rules-next t s t.rules n r listed c.if-may_take.listed.items _ (l ∷ []) (c.if-may_take.letter ∷ []) (omega (arith, c.loop-number-test.true, ap length rules)) (c.rule-item.is ∙ ap (λ x. get_or x n r) rules)
    c.loop-number.invariant (ap (λ x. x ∷ []) both.0) (both.1 ∙ ap (λ x. listed ++ x) (sym (append-nil (rule_step t s n r l))))

pub returns : goal.returns
returns c =
    let t = c.args.table.now in
    let s = c.args.state.now in
    let rules = c.rules_in_rank-rule-items.ensures.rules ∙ ap (λ (x : TableView). x.rules) c.table.ensures in
    c.in_ok-push_own.ensures ∙ ap (λ l. c.loop-number.listed.items ++ l) (sym (append-nil (own_step t s c.loop-number.letter)))
    ∙ rules-all t s t.rules c.loop-number.number c.loop-number.listed.items _ (c.loop-number.letter ∷ []) (omega (arith, c.loop-number-test.false, ap length rules)) c.loop-number.invariant
