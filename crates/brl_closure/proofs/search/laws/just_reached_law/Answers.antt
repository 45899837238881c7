use Rattle.brl_closure.proofs.TwoRuns.{listed_closed}
use Rattle.brl_pairs.specs.Sets.{sets_of}
use Rattle.brl_pairs.proofs.Closed.{unambiguous_from_closed}
use Rattle.brl_closure.proofs.search.laws.just_reached_law.Goals as goal

pub returns : goal.returns
returns g c exact body just =
    (λ single. listed_closed _ c.start.ensures.laws exact single body just, unambiguous_from_closed _ (sets_of body) c.start.ensures.laws)
