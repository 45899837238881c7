use Rattle.std.proofs.Common.{refl}
use Rattle.brl_closure.proofs.Fresh.{partly_more, partly_step}
use Rattle.brl_closure.proofs.search.finder.Finder.number_next.Goals as goal

pub number_step-requires-clause-step : goal.number_step-requires-clause-step
number_step-requires-clause-step g c =
    partly_step (g.M.Machine.behaviour c.args.self.now.machine.now) (g.M.Parted.steps_of c.args.self.now.machine.now) c.args.number c.args.trail.now.states c.args.cells.now c.args.fresh.now c.pop.new.self.items c.in-Some.step c.requires.partly c.in-Some.ensures.items

pub returns-clause-partly : goal.returns-clause-partly
returns-clause-partly g c =
    partly_more (g.M.Machine.behaviour c.args.self.now.machine.now) (g.M.Parted.steps_of c.args.self.now.machine.now) c.args.number
    c.args.trail.now.states c.number_step.new.trail.states c.in_ok-edge.ensures.advances.1.states c.args.cells.now c.number_step.new.cells c.in_ok-edge.ensures.cells
    c.args.fresh.now (record { part = c.args.fresh.now.part; edges = c.push.new.self; left = c.pop.new.self }) c.pop.new.self.items c.in-Some.step c.in_ok-edge.edge c.requires.partly c.in-Some.ensures.items refl refl c.in_ok-push.ensures.items c.in_ok-edge.ensures.edge
