use Rattle.std.proofs.Common.{◌∙◌, ap, filter, rules}
use Rattle.std.proofs.lemmas.Fn.{filter_same}
use Rattle.brl_clashes.specs.Sets.{opens_set}
use Rattle.brl_clashes.proofs.sets.openers.Goals as goal

pub returns : goal.returns
returns c =
    filter_same _ _ _ (λ x b f k. search rules) _ _ c.retain.ensures.filtered ∙ ap (filter (opens_set c.args.table.now c.args.characters.now)) c.in_ok-openers.ensures.items
