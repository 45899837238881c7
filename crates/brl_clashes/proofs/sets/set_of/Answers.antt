use Rattle.std.proofs.Common.{◌∙◌, ap, filter, rules}
use Rattle.std.proofs.lemmas.Fn.{filter_same}
use Rattle.brl_clashes.specs.Sets.{are_equal}
use Rattle.brl_clashes.proofs.sets.set_of.Goals as goal

pub returns : goal.returns
returns c =
    filter_same _ _ _ (λ x b f k. search rules) _ _ c.retain.ensures.filtered ∙ ap (filter (are_equal c.args.table.now c.args.character)) c.in_ok-set.ensures.items
