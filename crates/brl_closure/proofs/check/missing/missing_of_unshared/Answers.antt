use Rattle.std.proofs.Common.{arith}
use Rattle.brl_closure.specs.Passed.{HasOfUnshared}
use Rattle.brl_closure.specs.Steps.{MissUnexcused}
use Rattle.brl_closure.proofs.UnsharedSplits.{least_below, least_unshared}
use Rattle.brl_closure.proofs.check.missing.missing_of_unshared.Goals as goal

pub loop-position-preserved : goal.loop-position-preserved
loop-position-preserved c =
    let a = c.args in
    least_below (HasOfUnshared (MissUnexcused a.excused.now a.pairs.now) a.edges.now a.shared.now) c.loop-position.position c.loop-position.best c.in_ok-found.found c.lesser-best.result c.loop-position.invariant c.in_ok-found.ensures c.lesser-best.ensures

pub returns : goal.returns
returns c =
    let a = c.args in
    least_unshared a.excused.now a.pairs.now a.edges.now c.law.ensures a.shared.now c.requires.count c.requires.listed c.loop-position.position (omega arith) c.loop-position.best c.loop-position.invariant
