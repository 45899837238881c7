use Rattle.std.proofs.Common.{◌≡◌, ◌<◌, ℕ, length}
use Rattle.brl_slips.specs.Searching.{AreAt, numbers_at}
use Rattle.brl_slips.proofs.starts.Index.starts.Given as goal

abbrev pub invariant-loop-place : goal.invariant-loop-place
invariant-loop-place l = record {
  count : length l.starts.items ≡ l.place;
  each : (k : ℕ) → k < l.place → AreAt l.pieces l.text k (numbers_at l.starts.items k);
}
