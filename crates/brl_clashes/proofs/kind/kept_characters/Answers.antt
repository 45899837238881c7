use Rattle.std.proofs.Common.{◌∙◌, ap, filter, rules}
use Rattle.std.specs.Prelude.{not}
use Rattle.std.proofs.lemmas.Fn.{filter_same}
use Rattle.brl_without.specs.LeftOut.{is_left_out}
use Rattle.brl_clashes.proofs.kind.kept_characters.Goals as goal

pub returns : goal.returns
returns c =
    filter_same _ _ _ (λ x b f k. search rules) _ _ c.retain.ensures.filtered ∙ ap (filter (λ q. not (is_left_out c.args.left_out.now q))) c.in_ok-characters.ensures
