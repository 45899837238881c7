use Rattle.std.proofs.Common.{◌∙◌, ap}
use Rattle.brl_acting.specs.Capitals.{reached, seconds}
use Rattle.brl_acting.specs.Sets.{is_in}
use Rattle.brl_acting.proofs.reach.over_of.Goals as goal

pub returns : goal.returns
returns c =
    let bases = c.args.bases.now in
    let small = c.as_slice.ensures.value ∙ c.in_ok-small.ensures ∙ ap (seconds bases) c.in_ok-alphabet.ensures in
    c.in_ok-over.ensures ∙ ap (reached bases) (c.in_ok-from.ensures ∙ ap is_in small)
