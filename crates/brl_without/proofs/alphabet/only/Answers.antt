use Rattle.std.proofs.Common.{◌∙◌, ap, filter, not, rules}
use Rattle.std.proofs.lemmas.Fn.{filter_same}
use Rattle.brl_without.specs.Alphabet.{is_in_one}
use Rattle.brl_without.proofs.alphabet.only.Goals as goal

pub returns-clause-left_out : goal.returns-clause-left_out
returns-clause-left_out c =
    c.in_ok-new.ensures ∙ filter_same _ _ _ (λ x b f k. search rules) _ _ c.retain.ensures.filtered ∙ ap (filter (λ q. not (is_in_one c.args.spans.now q))) c.in_ok-characters.ensures
