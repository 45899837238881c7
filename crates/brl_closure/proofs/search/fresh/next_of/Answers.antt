use Rattle.std.proofs.Common.{◌≡◌, All, [], Option, None, refl, subst, arith}
use Rattle.std.proofs.lemmas.List.{take_all}
use Rattle.brl_pairs.proofs.Lists.{read_at}
use Rattle.brl_closure.proofs.Fresh.{IsNextBelow, next_more}
use Rattle.brl_closure.proofs.search.fresh.next_of.Goals as goal

pub loop-place-preserved : goal.loop-place-preserved
loop-place-preserved g c =
    let fresh = c.args.fresh.now in
    let k = c.loop-place.place in
    let f = c.index-fresh-place.result in
    next_more fresh k f c.loop-place.least c.lesser-least.result c.next_rule.result (read_at fresh fresh k f refl (omega arith) c.index-fresh-place.is) c.next_rule.ensures c.lesser-least.ensures.some c.lesser-least.ensures.none c.loop-place.invariant

pub returns-in-None-clause-none : goal.returns-in-None-clause-none
returns-in-None-clause-none g c =
    let fresh = c.args.fresh.now in
    subst (All (λ f. f.left.items ≡ [])) (take_all c.loop-place.place fresh (omega arith)) (subst (IsNextBelow fresh c.loop-place.place) c.in-None.is c.loop-place.invariant)
