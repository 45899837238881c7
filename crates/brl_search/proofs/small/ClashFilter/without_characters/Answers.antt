use Rattle.brl_search.proofs.Smallest.{keeps-given, keeps-more}
use Rattle.brl_search.proofs.small.ClashFilter.without_characters.Goals as goal

pub loop-texts-init : goal.loop-texts-init
loop-texts-init c = keeps-given c.args.self.now.table.now c.args.self.now.rules c.args.given c.requires

pub loop-texts-preserved : goal.loop-texts-preserved
loop-texts-preserved c =
    let next = rw c.in-Some.is at c.in_ok-next.ensures.keeps in
    keeps-more c.args.self.now.table.now c.args.self.now.rules c.args.given c.loop-texts.texts c.in-Some.next c.loop-texts.invariant next

pub returns-then-is_long-clause-texts : goal.returns-then-is_long-clause-texts
returns-then-is_long-clause-texts c = keeps-given c.args.self.now.table.now c.args.self.now.rules c.args.given c.requires
