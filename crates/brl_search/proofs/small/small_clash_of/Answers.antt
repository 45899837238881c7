use Rattle.std.proofs.Common.{List, ℕ, subst, sym}
use Rattle.std.proofs.lemmas.Result.{IfOk-weaker}
use Rattle.brl_search.specs.Small.{IsPartOf}
use Rattle.brl_search.proofs.Smallest.{keeps-more, small-of}
use Rattle.brl_search.proofs.small.small_clash_of.Goals as goal

pub returns-clause-left : goal.returns-clause-left
returns-clause-left c =
    let keeps = keeps-more c.args.table.now c.args.rules c.args.texts c.in_ok-shorter.shorter c.in_ok-small.small c.in_ok-shorter.ensures c.in_ok-small.ensures.texts in
    IfOk-weaker c.clash_of.result _ _ (λ clash is. subst (λ (text : List ℕ). IsPartOf text c.args.texts.left.items) (sym is) keeps.left_part) c.clash_of.ensures.left

pub returns-clause-right : goal.returns-clause-right
returns-clause-right c =
    let keeps = keeps-more c.args.table.now c.args.rules c.args.texts c.in_ok-shorter.shorter c.in_ok-small.small c.in_ok-shorter.ensures c.in_ok-small.ensures.texts in
    IfOk-weaker c.clash_of.result _ _ (λ clash is. subst (λ (text : List ℕ). IsPartOf text c.args.texts.right.items) (sym is) keeps.right_part) c.clash_of.ensures.right

pub returns-clause-small : goal.returns-clause-small
returns-clause-small c =
    small-of c.args.table.now c.args.rules c.in_ok-small.small.left.items c.in_ok-small.small.right.items c.clash_of.result c.clash_of.ensures.left c.clash_of.ensures.right c.in_ok-small.ensures.small
