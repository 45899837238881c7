use Rattle.brl_closure.proofs.Numbering.{some_closed}
use Rattle.brl_closure.proofs.TwoRuns.{reached_closed}
use Rattle.brl_closure.specs.Deciding.{reached_sets}
use Rattle.brl_pairs.specs.Pairs.{numbered}
use Rattle.brl_pairs.proofs.Closed.{unambiguous_from_closed}
use Rattle.brl_closure.proofs.search.laws.reached_closed_law.Goals as goal

pub returns-clause-reached : goal.returns-clause-reached
returns-clause-reached g c exact = (reached_closed _ c.start.ensures.laws exact, unambiguous_from_closed _ (reached_sets _) c.start.ensures.laws)

pub returns-clause-some : goal.returns-clause-some
returns-clause-some g c exact =
    (some_closed _ c.start.ensures.laws exact, λ (states, pairs, closed). unambiguous_from_closed _ (numbered states pairs) c.start.ensures.laws closed)
