use Rattle.std.proofs.Common.{◌∙◌, ◌≤◌, ap, arith, drop, length, sym}
use Rattle.std.proofs.lemmas.List.{drop_all}
use Rattle.brl_search.specs.Smaller.{diverge_at}
use Rattle.brl_search.proofs.Diverging.{none-right}
use Rattle.brl_search.proofs.texts.diverge_at.Goals as goal

pub returns-else-count-right : goal.returns-else-count-right
returns-else-count-right c =
    let t = c.args.table.now in
    let left = c.args.texts.now.left.items in
    let right = c.args.texts.now.right.items in
    let count = c.loop-count.count in
    let front = drop count c.args.left.now in
    let past : length c.args.right.now ≤ count = omega (arith, c.if-count-right.false) in
    sym (c.loop-count.invariant ∙ ap (diverge_at t left right c.args.pair front) (drop_all count c.args.right.now past) ∙ none-right t left right c.args.pair front)
