use Rattle.std.proofs.Common.{length, subst}
use Rattle.brl_closure.specs.Reached.{AtLeast, ReachedPair, SamePair}
use Rattle.brl_closure.specs.SearchView.{SearchView}
use Rattle.brl_closure.proofs.Reached.{pairs_counted}
use Rattle.brl_closure.proofs.search.explore.Search.pair_count.Goals as goal

pub returns-clause-reached : goal.returns-clause-reached
returns-clause-reached g c =
    rw c.len.ensures
    (subst (λ (v : SearchView g.row.M.Denot g.row.M-State.Denot). AtLeast (length c.self.inside.trail.pairs) SamePair (ReachedPair (g.M.Machine.behaviour v.machine))) c.self.view_is
    (pairs_counted (g.M.Machine.behaviour c.self.inside.finder.machine.now) c.self.inside.trail c.self.invariant.active.traced c.as_slice.ensures.one_number))
