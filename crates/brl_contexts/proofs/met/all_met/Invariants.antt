use Rattle.std.proofs.Common.{◌≡◌, ◌-◌, ◌≤◌, flat_map, length}
use Rattle.std.specs.List.{range_with_len}
use Rattle.brl_contexts.specs.Met.{met_by}
use Rattle.brl_contexts.proofs.met.all_met.Given as goal

abbrev pub invariant-loop-bar : goal.invariant-loop-bar
invariant-loop-bar g l = record {
  within : l.bar ≤ length ((g.B.Based.sharing l.machine).bars l.state);
  found : l.found.items ≡ flat_map (met_by ((g.B.Based.sharing l.machine).bars l.state) l.reads l.order.numbers.items) (range_with_len 0 l.bar);
}

abbrev pub decreases-loop-bar : goal.decreases-loop-bar
decreases-loop-bar g l = length ((g.B.Based.sharing l.machine).bars l.state) - l.bar
