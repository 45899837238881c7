use Rattle.std.proofs.Common.{sym, subst}
use Rattle.brl_closure.specs.Passed.{IsPassed}
use Rattle.brl_closure.proofs.PassedLaws.{passed_push}
use Rattle.brl_closure.proofs.check.earlier.EarlierEdges.keep.Goals as goal

pub returns : goal.returns
returns c = λ pairs cells before here.
    passed_push pairs cells c.args.self.now.lists.items c.make_room.new.self.lists.items c.push.new.self.items c.into_sorted.result c.make_room.ensures c.in_ok-push.ensures.items before
    (subst (IsPassed pairs cells) (sym c.into_sorted.ensures) here)
