use Rattle.std.proofs.Common.{◌≡◌, ◌+◌, ◌-◌, ◌≤◌, ℕ, Some, length, slice_get}
use Rattle.brl_contexts.proofs.met.bars_at.Given as goal

abbrev pub invariant-loop-next : goal.invariant-loop-next
invariant-loop-next l = record {
  many : l.next ≡ l.from + length l.bars.items;
  within : l.next ≤ length l.met;
  each : (k bar : ℕ) → slice_get l.bars.items k ≡ Some bar → slice_get l.met (l.from + k) ≡ Some (record { form = l.form; bar = bar });
}

abbrev pub decreases-loop-next : goal.decreases-loop-next
decreases-loop-next l = length l.met - l.next
