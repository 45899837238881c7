use Rattle.std.proofs.Common.{◌∷◌, ◌++◌, [], arith}
use Rattle.std.specs.Prelude.{codes}
use Rattle.std.specs.List.{join_with_byte}
use Rattle.brl_cert.proofs.More.{one_more, all_more}
use Rattle.brl_cert.proofs.Written.{with_feed}
use Rattle.brl_cert.proofs.writing.push_states.Goals as goal

pub loop-state-preserved : goal.loop-state-preserved
loop-state-preserved g c = record {
  written = one_more (λ s. join_with_byte 32 (codes "state" ∷ g.V.Version.form.fields s) ++ 10 ∷ []) c.args.out.now.items c.args.states.now c.loop-state.state-index c.state-item.result c.loop-state.out.items c.push.new.self.items (omega arith) c.state-item.is c.loop-state.invariant.written
      (with_feed c.loop-state.out.items (join_with_byte 32 (codes "state" ∷ g.V.Version.form.fields c.state-item.result)) c.push_state.new.out.items c.push.new.self.items c.in_ok-push_state.ensures.written c.in_ok-push.ensures.items);
  in_range = all_more g.V.Version.is_state c.args.states.now c.loop-state.state-index c.state-item.result (omega arith) c.state-item.is c.loop-state.invariant.in_range c.in_ok-push_state.ensures.in_range;
}
