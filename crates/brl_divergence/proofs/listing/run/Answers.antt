use Rattle.std.proofs.Common.{◌≡◌, true, arith, rules}
use Rattle.brl_divergence.proofs.listing.run.Goals as goal

pub loop-init : goal.loop-init
loop-init g c = record { working = c.requires.working; fewer = omega arith }

pub loop-preserved : goal.loop-preserved
loop-preserved g c =
    let more : c.in_ok-step.field-0 ≡ true = search rules in
    let step = rw more at c.in_ok-step.ensures.step in
    let less = step.fewer in
    record { working = step.working; fewer = omega (arith, less, c.loop.invariant.fewer) }
