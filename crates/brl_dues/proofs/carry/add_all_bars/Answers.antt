use Rattle.std.proofs.Common.{ℕ, List, ap}
use Rattle.brl_rules.specs.declared.place.Cond.{Cond}
use Rattle.brl_dues.specs.Carry.{bars_past}
use Rattle.brl_dues.proofs.Adding.{has-none, lists-all, lists-broken, lists-more}
use Rattle.brl_dues.proofs.carry.add_all_bars.Goals as goal

pub loop-rule-init : goal.loop-rule-init
loop-rule-init c = has-none c.args.found.now.items

pub loop-rule-preserved : goal.loop-rule-preserved
loop-rule-preserved c =
    lists-more (λ (p : List ℕ × Cond). bars_past c.args.table.now c.args.before c.args.run c.args.character c.args.others.now p.0 p.1) c.args.above.now c.loop-rule.rule-index _ _ c.in_ok-add_bars.field-0 _ _ _
    c.loop-rule-test.true (ap (λ (p : List ℕ × Cond). bars_past c.args.table.now c.args.before c.args.run c.args.character c.args.others.now p.0 p.1) c.rule-item.is) c.loop-rule.invariant c.in_ok-add_bars.ensures c.if-not-branch.false

pub returns-then-not-branch : goal.returns-then-not-branch
returns-then-not-branch c =
    lists-broken (λ (p : List ℕ × Cond). bars_past c.args.table.now c.args.before c.args.run c.args.character c.args.others.now p.0 p.1) c.args.above.now c.loop-rule.rule-index _ _ c.in_ok-add_bars.field-0 _ _ _ _
    c.loop-rule-test.true (ap (λ (p : List ℕ × Cond). bars_past c.args.table.now c.args.before c.args.run c.args.character c.args.others.now p.0 p.1) c.rule-item.is) c.loop-rule.invariant c.in_ok-add_bars.ensures c.if-not-branch.true

pub returns : goal.returns
returns c =
    lists-all (λ (p : List ℕ × Cond). bars_past c.args.table.now c.args.before c.args.run c.args.character c.args.others.now p.0 p.1) c.args.above.now c.loop-rule.rule-index _ _ c.loop-rule-test.false c.loop-rule.invariant
