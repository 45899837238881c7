use Rattle.std.proofs.Common.{◌∙◌}
use Rattle.brl_acting.specs.Classes.{has_odd, members_view}
use Rattle.brl_acting.proofs.facts.has_odd.Goals as goal

pub returns : goal.returns
returns c = c.any_odd.ensures ∙ (λ j. has_odd (members_view c.args.all.now) (c.in_ok-besides.ensures j) c.args.chars.now)
