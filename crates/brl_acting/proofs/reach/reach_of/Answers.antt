use Rattle.std.proofs.Common.{◌≡◌, ◌∙◌}
use Rattle.brl_acting.specs.Capitals.{near_by, reached}
use Rattle.brl_acting.specs.Sets.{set_view}
use Rattle.brl_acting.proofs.reach.reach_of.Goals as goal

pub returns : goal.returns
returns c =
    let bases = c.args.bases.now in
    let pairs = c.as_slice.ensures.value ∙ c.in_ok-turned.ensures in
    let near : set_view c.in_ok-near.near ≡ near_by bases c.args.chars.now = c.in_ok-near.ensures ∙ (λ j. reached (pairs j) (c.in_ok-from.ensures j)) in
    λ j. record { alphabet = c.in_ok-alphabet.ensures j; over = c.in_ok-over.ensures j; stood = c.in_ok-stood.ensures j; near = near j }
