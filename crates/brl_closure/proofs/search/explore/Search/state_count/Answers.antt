use Rattle.std.proofs.Common.{length, subst}
use Rattle.brl_closure.specs.Reached.{AtLeast, Reached, SameState}
use Rattle.brl_closure.specs.SearchView.{SearchView}
use Rattle.brl_closure.proofs.Reached.{states_counted}
use Rattle.brl_closure.proofs.search.explore.Search.state_count.Goals as goal

pub returns-clause-reached : goal.returns-clause-reached
returns-clause-reached g c =
    rw c.as_slice.ensures.members
    (subst (λ (v : SearchView g.row.M.Denot g.row.M-State.Denot). AtLeast (length c.self.inside.trail.states) SameState (Reached (g.M.Machine.behaviour v.machine))) c.self.view_is
    (states_counted (g.M.Machine.behaviour c.self.inside.finder.machine.now) c.self.inside.trail c.self.invariant.active.traced c.as_slice.ensures.one_number))
