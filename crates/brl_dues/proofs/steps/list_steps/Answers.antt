use Rattle.std.proofs.Common.{◌∙◌, ◌++◌, ap, arith, length, subst, get_or}
use Rattle.std.specs.List.{flat_map}
use Rattle.brl_rules.specs.TableView.{TableView}
use Rattle.brl_dues.specs.ByFold.{AreByFold}
use Rattle.brl_dues.specs.Letters.{own_step, steps_found}
use Rattle.brl_dues.proofs.ByFold.{by_fold-kept}
use Rattle.brl_dues.proofs.Loops.{rules-next, rules-all, own-next, own-all}
use Rattle.brl_dues.proofs.steps.list_steps.Goals as goal

pub loop-number-init : goal.loop-number-init
loop-number-init c = (
  subst (AreByFold c.in_ok-places.places.items) c.as_slice.ensures.value c.in_ok-places.ensures,
  ap (λ l. l ++ steps_found c.args.table.now c.args.state.now 0 c.args.table.now.rules c.args.letters.items) c.new-listed.ensures.items,
)

pub loop-number-preserved : goal.loop-number-preserved
loop-number-preserved c =
    let t = c.args.table.now in
    let rules = c.rules_in_rank-rule-items.ensures.rules ∙ ap (λ (x : TableView). x.rules) c.table.ensures in (
      by_fold-kept c.args.state.now.before c.rule-item.result c.in_ok-places.places.items c.loop-number.letters.items c.take_rule.new.letters.items c.loop-number.invariant.0 c.in_ok-take_rule.ensures.letters,
      rules-next t c.args.state.now t.rules c.loop-number.number c.rule-item.result c.loop-number.listed.items c.take_rule.new.listed.items _ c.loop-number.letters.items c.take_rule.new.letters.items
          (omega (arith, c.loop-number-test.true, ap length rules)) (c.rule-item.is ∙ ap (λ l. get_or l c.loop-number.number c.rule-item.result) rules) c.loop-number.invariant.1
          c.in_ok-take_rule.ensures.letters c.in_ok-take_rule.ensures.listed,
    )

pub loop-letter-init : goal.loop-letter-init
loop-letter-init c =
    let t = c.args.table.now in
    let rules = c.rules_in_rank-rule-items.ensures.rules ∙ ap (λ (x : TableView). x.rules) c.table.ensures in
    ap (λ ls. c.loop-number.listed.items ++ flat_map (own_step t c.args.state.now) ls) c.deref-letter-items.ensures.value
    ∙ rules-all t c.args.state.now t.rules c.loop-number.number c.loop-number.listed.items _ c.loop-number.letters.items
    (omega (arith, c.loop-number-test.false, ap length rules)) c.loop-number.invariant.1

pub loop-letter-preserved : goal.loop-letter-preserved
loop-letter-preserved c =
    own-next (own_step c.args.table.now c.args.state.now) c.deref-letter-items.result.now c.loop-letter.letter-index c.letter-item.result c.loop-letter.listed.items _ _
    c.loop-letter-test.true c.loop-letter.invariant (c.in_ok-push_own.ensures ∙ ap (λ l. c.loop-letter.listed.items ++ own_step c.args.table.now c.args.state.now l) c.letter-item.is)

pub returns : goal.returns
returns c =
    own-all (own_step c.args.table.now c.args.state.now) c.deref-letter-items.result.now c.loop-letter.letter-index c.loop-letter.listed.items _ c.loop-letter-test.false c.loop-letter.invariant
