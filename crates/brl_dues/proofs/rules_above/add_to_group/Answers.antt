use Rattle.std.proofs.Common.{[], ◌∷◌, ◌++◌, ap, refl, subst, sym, ◌∙◌, Result, Ok, Err, OnErr}
use Rattle.brl_dues.specs.SecondCharacter.{Grow}
use Rattle.brl_dues.proofs.SecondCharacter.{push-grows, set-grows, set-same}
use Rattle.brl_dues.proofs.rules_above.add_to_group.Goals as goal

on_err : {T E P : Type 0} (r : Result T E) → P → OnErr r P
on_err (Ok x) p = tt
on_err (Err e) p = p

pub returns-in_err-push-in-Some-clause-err : goal.returns-in_err-push-in-Some-clause-err
returns-in_err-push-in-Some-clause-err c =
    on_err c.from_residual.result
    (set-same c.args.groups.now.items c.as_slice.result.now c.in-Some.place c.second_of-second.result _ c.index_mut.result.now c.as_slice.ensures.value c.in-Some.ensures
    c.index_mut.ensures.value refl c.in_err-push-in-Some.ensures.items)

pub returns-in_ok-push-in-Some-clause-ok : goal.returns-in_ok-push-in-Some-clause-ok
returns-in_ok-push-in-Some-clause-ok c =
    set-grows c.args.groups.now.items c.as_slice.result.now c.in-Some.place c.second_of-second.result _ c.index_mut.result.now (c.args.others.now, c.args.after) c.as_slice.ensures.value
    c.in-Some.ensures c.second_of-second.ensures c.index_mut.ensures.value refl (c.in_ok-push-in-Some.ensures.items ∙ ap (λ a. c.index_mut.result.now.rules.items ++ a ∷ []) c.new-rule.ensures)

pub returns-in_ok-push-in-None-2-clause-ok : goal.returns-in_ok-push-in-None-2-clause-ok
returns-in_ok-push-in-None-2-clause-ok c =
    let grows = push-grows c.args.groups.now.items c.as_slice.result.now c.second_of-second.result (record { second = c.second_of-second.result; rules = c.push-in-None.new.self })
    (c.args.others.now, c.args.after) c.as_slice.ensures.value c.in-None.ensures c.second_of-second.ensures refl
    (c.in_ok-push-in-None.ensures.items ∙ ap (λ l. l ++ c.new-rule.result ∷ []) c.new-rules.ensures.items ∙ ap (λ a. a ∷ []) c.new-rule.ensures) in
    subst (λ new. Grow c.args.groups.now.items new (c.args.others.now, c.args.after)) (sym c.in_ok-push-in-None-2.ensures.items) grows
