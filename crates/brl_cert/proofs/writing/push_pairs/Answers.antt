use Rattle.std.proofs.Common.{◌∷◌, ◌++◌, [], arith}
use Rattle.std.specs.List.{join_with_byte}
use Rattle.brl_cells.specs.Dots.{AreCells}
use Rattle.brl_cert.specs.Lines.{pair_fields}
use Rattle.brl_cert.proofs.More.{one_more, all_more}
use Rattle.brl_cert.proofs.Written.{with_feed}
use Rattle.brl_cert.proofs.writing.push_pairs.Goals as goal

pub loop-pair-preserved : goal.loop-pair-preserved
loop-pair-preserved c = record {
  written = one_more (λ p. join_with_byte 32 (pair_fields p) ++ 10 ∷ []) c.args.out.now.items c.args.pairs.now c.loop-pair.pair-index c.pair-item.result c.loop-pair.out.items c.push.new.self.items (omega arith) c.pair-item.is c.loop-pair.invariant.written
      (with_feed c.loop-pair.out.items (join_with_byte 32 (pair_fields c.pair-item.result)) c.push_pair.new.out.items c.push.new.self.items c.in_ok-push_pair.ensures.written c.in_ok-push.ensures.items);
  in_range = all_more (λ p. AreCells p.lead) c.args.pairs.now c.loop-pair.pair-index c.pair-item.result (omega arith) c.pair-item.is c.loop-pair.invariant.in_range c.in_ok-push_pair.ensures.in_range;
}
