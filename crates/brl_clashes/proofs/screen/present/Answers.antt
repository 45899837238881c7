use Rattle.std.proofs.Common.{◌∙◌, ap, filter, rules}
use Rattle.std.specs.Prelude.{nat_lt}
use Rattle.std.proofs.lemmas.Fn.{filter_same}
use Rattle.brl_clashes.specs.Screen.{count_of}
use Rattle.brl_clashes.proofs.screen.present.Goals as goal

pub returns : goal.returns
returns c =
    filter_same _ _ _ (λ x b f k. search rules) _ _ c.retain.ensures.filtered ∙ ap (filter (λ kind. nat_lt 0 (count_of c.args.kinds.now kind))) c.in_ok-found.ensures.items
