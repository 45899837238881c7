use Rattle.std.proofs.Common.{◌∙◌, ap}
use Rattle.brl_accepted.specs.Counting.{with_pair}
use Rattle.brl_accepted.proofs.ListLemmas.{one_more_pair}
use Rattle.brl_accepted.proofs.counts.pair_count.Goals as goal

pub loop-pair-preserved : goal.loop-pair-preserved
loop-pair-preserved c =
    one_more_pair c.args.pairs.now c.loop-pair.pair-index (0, 0) c.loop-pair.once.keys c.insert.new.self.keys c.loop-pair-test.true c.loop-pair.invariant
    (c.in_ok-insert.ensures.keys ∙ ap (with_pair c.loop-pair.once.keys) c.lesser_first.ensures)
