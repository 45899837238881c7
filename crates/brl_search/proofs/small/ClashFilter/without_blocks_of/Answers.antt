use Rattle.std.proofs.Common.{◌≤◌, rules}
use Rattle.brl_search.proofs.Parts.{text-without}
use Rattle.brl_search.proofs.Smallest.{keeps-given, keeps-more, keeps-without}
use Rattle.brl_search.proofs.small.ClashFilter.without_blocks_of.Goals as goal

pub loop-start-init : goal.loop-start-init
loop-start-init c = keeps-given c.args.self.now.table.now c.args.self.now.rules c.args.given c.requires.clash

pub clash_at-requires-clause-left : goal.clash_at-requires-clause-left
clash_at-requires-clause-left c =
    let on : c.loop-start.start ≤ c.saturating_add-end.result = search rules in
    text-without c.args.self.now.table.now c.in_ok-next.next.left.items c.loop-start.texts.left.items c.loop-start.start c.saturating_add-end.result on c.in_ok-next.ensures.left c.loop-start.invariant.clash.clash.left_text

pub clash_at-requires-clause-right : goal.clash_at-requires-clause-right
clash_at-requires-clause-right c =
    let on : c.loop-start.start ≤ c.saturating_add-end.result = search rules in
    text-without c.args.self.now.table.now c.in_ok-next.next.right.items c.loop-start.texts.right.items c.loop-start.start c.saturating_add-end.result on c.in_ok-next.ensures.right c.loop-start.invariant.clash.clash.right_text

pub loop-start-preserved-then-branch : goal.loop-start-preserved-then-branch
loop-start-preserved-then-branch c =
    let t = c.args.self.now.table.now in
    let start = c.loop-start.start in
    let end = c.saturating_add-end.result in
    let on : start ≤ end = search rules in
    keeps-more t c.args.self.now.rules c.args.given c.loop-start.texts c.in_ok-next.next c.loop-start.invariant
    (keeps-without t c.args.self.now.rules c.loop-start.texts c.in_ok-next.next start end start end on on c.in_ok-next.ensures.left c.in_ok-next.ensures.right (c.in_ok-clash_at.ensures.0 c.if-branch.true))
