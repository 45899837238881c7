use Rattle.std.proofs.Common.{inr}
use Rattle.brl_clashes.proofs.Verdicts.{narrower}
use Rattle.brl_clashes.proofs.sections.found_at.Goals as goal

-- no texts clash, so none of fewer do
pub returns-then-none : goal.returns-then-none
returns-then-none g c =
    let t = c.args.plan.asked.table.now in
    let left_out = c.args.plan.asked.left_out.now in
    inr (narrower t left_out _ (c.requires.none c.if-none.true), c.no_clashes.ensures.whole, c.no_clashes.ensures.none)
