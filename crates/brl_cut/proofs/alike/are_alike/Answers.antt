use Rattle.std.proofs.Common.{◌∙◌, arith, refl, sym}
use Rattle.brl_cut.proofs.AlikeSteps.{lines-left, more-left, none-left, texts_alike}
use Rattle.brl_cut.proofs.alike.are_alike.Goals as goal

pub returns-then-there-other : goal.returns-then-there-other
returns-then-there-other c =
    sym (more-left texts_alike refl lines-left c.args.text.now c.args.other.now c.loop-at.at c.loop-at.there c.loop-at-test.true c.if-there-other.true)
    ∙ c.loop-at.invariant.same

pub returns : goal.returns
returns c =
    sym (none-left texts_alike refl lines-left c.args.text.now c.args.other.now c.loop-at.at c.loop-at.there
    (omega (arith, c.loop-at-test.false)) c.loop-at.invariant.inside) ∙ c.loop-at.invariant.same
