use Rattle.brl_search.proofs.Smallest.{keeps-given, keeps-more}
use Rattle.brl_search.proofs.small.ClashFilter.without_blocks.Goals as goal

pub loop-size-init : goal.loop-size-init
loop-size-init c = keeps-given c.args.self.now.table.now c.args.self.now.rules c.args.given c.requires

pub loop-size-preserved : goal.loop-size-preserved
loop-size-preserved c = keeps-more c.args.self.now.table.now c.args.self.now.rules c.args.given c.loop-size.texts c.in_ok-texts.texts c.loop-size.invariant c.in_ok-texts.ensures
