use Rattle.std.proofs.Common.{[], ap, subst, sym, ◌∙◌}
use Rattle.brl_dues.specs.Carry.{carry}
use Rattle.brl_dues.proofs.Adding.{HasAdded, has-none, has-more, adds-broken, adds-all}
use Rattle.brl_dues.proofs.Gathering.{past-proper}
use Rattle.brl_dues.proofs.Past.{broken-past, whole-past}
use Rattle.brl_dues.proofs.carry.dues_past.Goals as goal

pub loop-due-init : goal.loop-due-init
loop-due-init c = subst (HasAdded [] []) (sym c.new-left.ensures.items) (has-none [])

pub loop-due-preserved : goal.loop-due-preserved
loop-due-preserved c =
    has-more (carry c.args.table.now c.args.past.now) c.args.dues.now c.loop-due.due-index c.due-item.result c.in_ok-carry.field-0 c.in_ok-add.field-0 _ _ _
    c.loop-due-test.true (c.in_ok-carry.ensures ∙ ap (carry c.args.table.now c.args.past.now) c.due-item.is) c.loop-due.invariant c.in_ok-add.ensures c.if-not-branch.false

pub returns-then-not-branch-clause-left : goal.returns-then-not-branch-clause-left
returns-then-not-branch-clause-left c =
    broken-past c.args.table.now c.args.past.now c.args.dues.now []
    (adds-broken (carry c.args.table.now c.args.past.now) c.args.dues.now c.loop-due.due-index c.due-item.result c.in_ok-carry.field-0 c.in_ok-add.field-0 _ _ _ _
    c.loop-due-test.true (c.in_ok-carry.ensures ∙ ap (carry c.args.table.now c.args.past.now) c.due-item.is) c.loop-due.invariant c.in_ok-add.ensures c.if-not-branch.true)

pub returns-clause-left : goal.returns-clause-left
returns-clause-left c =
    whole-past c.args.table.now c.args.past.now c.args.dues.now c.loop-due.left.items
    (adds-all (carry c.args.table.now c.args.past.now) c.args.dues.now c.loop-due.due-index _ _ c.loop-due-test.false c.loop-due.invariant)

pub returns-clause-proper : goal.returns-clause-proper
returns-clause-proper c =
    past-proper c.args.table.now c.args.past.now c.args.dues.now c.loop-due.left.items c.requires
    (adds-all (carry c.args.table.now c.args.past.now) c.args.dues.now c.loop-due.due-index _ _ c.loop-due-test.false c.loop-due.invariant)
