use Rattle.std.proofs.Common.{◌≡◌, ℕ, List, [], rules, subst, sym}
use Rattle.std.specs.List.{filter}
use Rattle.std.proofs.lemmas.Fn.{filter_same}
use Rattle.brl_pairs.specs.declared.step.Step.{Step}
use Rattle.brl_without.specs.LeftOut.{uses_none}
use Rattle.brl_without.specs.Itself.{filter-all, uses_none-none}
use Rattle.brl_without.proofs.without.steps_without.Goals as goal

pub returns-then-not-is_empty : goal.returns-then-not-is_empty
returns-then-not-is_empty g c = filter_same _ _ _ (λ x b f k. search rules) _ _ c.retain.ensures.filtered

pub returns-else-not-is_empty : goal.returns-else-not-is_empty
returns-else-not-is_empty g c =
    let none : c.args.left_out.now ≡ [] = c.is_empty.ensures.0 c.if-not-is_empty.false in
    sym (subst (λ (left_out : List ℕ). filter (λ (x : Step g.row.S.Denot). uses_none left_out x.reads) c.args.listed.items ≡ c.args.listed.items) (sym none)
    (filter-all (λ (x : Step g.row.S.Denot). uses_none [] x.reads) (λ x. uses_none-none x.reads) c.args.listed.items))
