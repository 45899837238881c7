use Rattle.std.proofs.Common.{◌≡◌, ◌-◌, ◌<◌, ◌≤◌, ℕ, true, false, length, map}
use Rattle.brl_pairs.specs.Order.{all_at, at, is_low}
use Rattle.brl_pairs.proofs.order.first_place.Given as goal

abbrev pub invariant-loop-low : goal.invariant-loop-low
invariant-loop-low g l = record {
  from : l.fn.from ≤ l.low;
  between : l.low ≤ l.high;
  within : l.high ≤ length l.numbers;
  passed : (place : ℕ) → l.fn.from ≤ place → place < l.low → is_low l.begins (g.W.Sequence.numbers l.key) (at (all_at (map g.W.Sequence.numbers l.kept) l.numbers) place) ≡ true;
  left : (place : ℕ) → l.high ≤ place → place < length l.numbers → is_low l.begins (g.W.Sequence.numbers l.key) (at (all_at (map g.W.Sequence.numbers l.kept) l.numbers) place) ≡ false;
}

abbrev pub decreases-loop-low : goal.decreases-loop-low
decreases-loop-low g l = l.high - l.low
