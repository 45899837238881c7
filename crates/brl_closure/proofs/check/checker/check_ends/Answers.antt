use Rattle.std.proofs.Common.{arith}
use Rattle.brl_closure.specs.Refusals.{HasTwoEnds}
use Rattle.brl_closure.proofs.Closing.{ends_within}
use Rattle.brl_closure.proofs.LeastLaws.{least_here}
use Rattle.brl_closure.proofs.check.checker.check_ends.Goals as goal

pub returns-then-has_two_ends_at-clause-refused : goal.returns-then-has_two_ends_at-clause-refused
returns-then-has_two_ends_at-clause-refused g c =
    let ends = HasTwoEnds (g.M.Machine.behaviour c.args.machine.now) c.args.body.now in
    (c.requires.start, c.requires.steps, c.requires.splits, c.requires.moves, least_here ends c.loop-number.number (c.has_two_ends_at.ensures.0 c.if-has_two_ends_at.true) c.loop-number.invariant)

pub returns-clause-complete : goal.returns-clause-complete
returns-clause-complete g c = λ number both.
    c.loop-number.invariant number (omega (arith, ends_within (g.M.Machine.behaviour c.args.machine.now) c.args.body.now number both, c.pair_count-number-end.ensures)) both
