use Rattle.brl_closure.proofs.KnownLists.{none_known}
use Rattle.brl_closure.proofs.Reached.{two_ends_reached}
use Rattle.brl_closure.proofs.search.finder.Finder.outcome_of.Goals as goal

pub returns-in_ok-texts-in-BothEnd : goal.returns-in_ok-texts-in-BothEnd
returns-in_ok-texts-in-BothEnd g c =
    let m = g.M.Machine.behaviour c.args.self.now.machine.now in
    let stopped = rw c.in-BothEnd.is at c.requires.stopped in
    (c.in_ok-texts-in-BothEnd.ensures.texts.paths, two_ends_reached m c.args.trail.now stopped.0 c.in-BothEnd.number stopped.1.pair stopped.1.at stopped.1.ends)

pub texts_of-requires-clause-known : goal.texts_of-requires-clause-known
texts_of-requires-clause-known g c = none_known (g.M.Machine.behaviour c.args.self.now.machine.now) c.args.trail.now.states c.new-known.result c.new-known.ensures
