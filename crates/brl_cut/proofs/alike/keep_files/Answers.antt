use Rattle.std.proofs.Common.{◌∙◌, arith, refl, sym}
use Rattle.brl_cut.proofs.AlikeSteps.{files_kept, more-left, none-left}
use Rattle.brl_cut.proofs.alike.keep_files.Goals as goal

pub returns-then-at-others : goal.returns-then-at-others
returns-then-at-others c =
    sym (more-left files_kept refl
    (λ file left. (refl, refl)) c.args.files.now c.args.others.now c.loop-at.at c.loop-at.at c.loop-at-test.true c.if-at-others.true)
    ∙ c.loop-at.invariant.same

pub returns : goal.returns
returns c =
    sym (none-left files_kept refl (λ file left. (refl, refl)) c.args.files.now c.args.others.now c.loop-at.at c.loop-at.at
    (omega (arith, c.loop-at-test.false)) c.loop-at.invariant.inside) ∙ c.loop-at.invariant.same
