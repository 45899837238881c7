use Rattle.std.proofs.Common.{◌≡◌, ◌∙◌, ap, filter, rules}
use Rattle.std.specs.List.{list_any}
use Rattle.std.proofs.lemmas.Fn.{filter_same}
use Rattle.brl_clashes.specs.Kinds.{is_of, kinds}
use Rattle.brl_clashes.proofs.kind.kinds_among.Goals as goal

pub returns : goal.returns
returns c =
    let all : c.in_ok-found.found.items ≡ kinds = c.in_ok-found.ensures.items ∙ c.as_slice.ensures ∙ c.kinds.ensures in
    filter_same _ _ _ (λ x b f k. search rules) _ _ c.retain.ensures.filtered ∙ ap (filter (λ kind. list_any (is_of c.args.table.now kind) c.args.characters.now)) all
