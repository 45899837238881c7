use Rattle.std.proofs.Common.{◌∙◌, ap}
use Rattle.std.specs.List.{list_any}
use Rattle.brl_acting.specs.Classes.{is_caseless, members_view}
use Rattle.brl_acting.specs.Sets.{is_in}
use Rattle.brl_acting.proofs.facts.has_caseless.Goals as goal

pub returns : goal.returns
returns c =
    let small = c.in_ok-set.ensures ∙ ap is_in (c.as_slice.ensures.value ∙ c.in_ok-small.ensures) in
    c.any_caseless.ensures ∙ (λ j. list_any (is_caseless (members_view c.args.all.now) (small j)) c.args.chars.now)
