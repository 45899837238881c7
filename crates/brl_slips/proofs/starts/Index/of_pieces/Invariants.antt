use Rattle.std.proofs.Common.{◌≤◌, ◌<◌, ℕ, length}
use Rattle.brl_slips.specs.Pieces.{chars_at}
use Rattle.brl_slips.specs.Searching.{AreNumbered}
use Rattle.brl_slips.proofs.starts.Index.of_pieces.Given as goal

abbrev pub invariant-loop-number : goal.invariant-loop-number
invariant-loop-number l = record {
  numbered : AreNumbered l.pieces l.number l.numbers;
  longest : (number : ℕ) → number < l.number → length (chars_at l.pieces number) ≤ l.longest;
}
