use Rattle.std.proofs.Common.{◌<◌, ◌≡◌, ℕ, Some, slice_get}
use Rattle.brl_parts.proofs.parts.past_all.Given as goal

abbrev pub invariant-loop-number : goal.invariant-loop-number
invariant-loop-number l = (k n : ℕ) → k < l.number-index → slice_get l.numbers k ≡ Some n → n < l.count
