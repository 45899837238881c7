use Rattle.std.proofs.Common.{◌+◌, ◌∙◌, arith, subst₂, sym}
use Rattle.brl_search.specs.Small.{ClashAt}
use Rattle.brl_search.proofs.Parts.{remove_range-one, text-without}
use Rattle.brl_search.proofs.Smallest.{keeps-without}
use Rattle.brl_search.proofs.small.ClashFilter.without_at.Goals as goal

pub clash_at-requires-clause-left : goal.clash_at-requires-clause-left
clash_at-requires-clause-left c =
    let place = c.args.places.0 in
    text-without c.args.self.now.table.now c.in_ok-next.next.left.items c.args.texts.now.left.items place (place + 1) (omega arith) c.in_ok-next.ensures.left c.requires.clash.clash.left_text

pub clash_at-requires-clause-right : goal.clash_at-requires-clause-right
clash_at-requires-clause-right c =
    let place = c.args.places.1 in
    text-without c.args.self.now.table.now c.in_ok-next.next.right.items c.args.texts.now.right.items place (place + 1) (omega arith) c.in_ok-next.ensures.right c.requires.clash.clash.right_text

pub returns-then-branch-clause-keeps : goal.returns-then-branch-clause-keeps
returns-then-branch-clause-keeps c =
    let i = c.args.places.0 in
    let j = c.args.places.1 in
    keeps-without c.args.self.now.table.now c.args.self.now.rules c.args.texts.now c.in_ok-next.next i (i + 1) j (j + 1) (omega arith) (omega arith) c.in_ok-next.ensures.left c.in_ok-next.ensures.right
    (c.in_ok-clash_at.ensures.0 c.if-branch.true)

pub returns-else-branch-clause-none : goal.returns-else-branch-clause-none
returns-else-branch-clause-none c = λ within clash.
    let left = c.in_ok-next.ensures.left ∙ remove_range-one c.args.texts.now.left.items c.args.places.0 in
    let right = c.in_ok-next.ensures.right ∙ remove_range-one c.args.texts.now.right.items c.args.places.1 in
    let test = c.in_ok-clash_at.ensures.1 (subst₂ (ClashAt c.args.self.now.table.now c.args.self.now.rules) (sym left) (sym right) clash) in
    let no = c.if-branch.false in
    cc (test, no)
