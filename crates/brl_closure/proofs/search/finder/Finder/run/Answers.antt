use Rattle.std.proofs.Common.{◌≡◌, true, arith, rules}
use Rattle.brl_closure.proofs.Additions.{extends_refl, extends_trans}
use Rattle.brl_closure.proofs.search.finder.Finder.run.Goals as goal

pub loop-init : goal.loop-init
loop-init g c = record {
  working = c.requires.working;
  extends = extends_refl c.args.trail.now;
  fewer = omega arith;
}

pub step-requires : goal.step-requires
step-requires g c = record { working = c.loop.invariant.working }

pub loop-preserved : goal.loop-preserved
loop-preserved g c =
    let more : c.in_ok-step.field-0 ≡ true = search rules in
    let step = rw more at c.in_ok-step.ensures.step in
    record {
      working = step.working;
      extends = extends_trans c.args.trail.now c.loop.trail c.step.new.trail c.loop.invariant.extends step.extends;
      fewer = let less = step.fewer in omega (arith, less, c.loop.invariant.fewer);
    }
