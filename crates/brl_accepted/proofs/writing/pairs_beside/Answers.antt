use Rattle.std.proofs.Common.{◌∙◌, filter, not, rules}
use Rattle.std.proofs.lemmas.Fn.{filter_same}
use Rattle.brl_pairs.specs.Divergence.{has_rules}
use Rattle.brl_accepted.proofs.writing.pairs_beside.Goals as goal

pub returns : goal.returns
returns c =
    filter_same _ _ _ (λ x b f k. search rules) _ _ c.retain.ensures.filtered
    ∙ (λ i. filter (λ pair. not (has_rules ((c.in_ok-of_sets.ensures ∙ c.in_ok-pairs_of_sets.ensures) i) pair.0 pair.1)) (c.in_ok-pairs.ensures.items i))
