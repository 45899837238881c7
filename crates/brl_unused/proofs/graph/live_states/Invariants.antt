use Rattle.std.proofs.Common.{◌+◌, IsFalse, cond}
use Rattle.brl_unused.specs.Marking.{AreMarked, IsClosed, unmarked}
use Rattle.brl_unused.proofs.graph.live_states.Given as goal

abbrev pub invariant-loop-more : goal.invariant-loop-more
invariant-loop-more g l = record {
  marked : AreMarked l.ends l.found l.live.items;
  closed : IsFalse l.more → IsClosed l.found l.live.items;
}

abbrev pub decreases-loop-more : goal.decreases-loop-more
decreases-loop-more g l = unmarked l.live.items + cond l.more 1 0
