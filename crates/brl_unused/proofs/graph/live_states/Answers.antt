use Rattle.std.proofs.Common.{◌≡◌, Bool, List, false, subst, sym, true}
use Rattle.brl_unused.specs.Marking.{AreMarked, unmarked}
use Rattle.brl_unused.proofs.Marked.{all_live, marked_start, smaller}
use Rattle.brl_unused.proofs.graph.live_states.Goals as goal

differ : true ≡ false → ⊥
differ same = cc

pub loop-more-init : goal.loop-more-init
loop-more-init g c = record {
  marked = subst (λ (live : List Bool). AreMarked c.args.ends.now c.args.found.now live) (sym c.in_ok-live.ensures.items) (marked_start c.args.ends.now c.args.found.now);
  closed = λ none. absurd (differ none);
}

pub loop-more-smaller : goal.loop-more-smaller
loop-more-smaller g c =
    smaller c.in_ok-more.more c.loop-more.more (unmarked c.mark_round.new.live.items) (unmarked c.loop-more.live.items) c.in_ok-more.ensures.fewer c.in_ok-more.ensures.most c.loop-more-test.true

pub returns : goal.returns
returns g c = all_live c.args.ends.now c.args.found.now c.loop-more.live.items c.loop-more.invariant.marked (c.loop-more.invariant.closed c.loop-more-test.false)
