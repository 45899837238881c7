use Rattle.std.proofs.Common.{◌≡◌, ◌+◌, ◌≤◌, ℕ, Option, Some, length, slice_get}
use Rattle.brl_closure.specs.Least.{IsLeastFound}
use Rattle.brl_closure.specs.Pass.{IsBehindFrom}
use Rattle.brl_pairs.specs.Body.{NumberPair}
use Rattle.brl_closure.proofs.check.pairs_by_state.pairs_by_trailing_state.Given as goal

abbrev pub invariant-loop-number : goal.invariant-loop-number
invariant-loop-number g l = record {
  first_count : length l.first.items ≡ length l.body.states;
  next_count : length l.next.items ≡ length l.body.pairs;
  each_first : (state : ℕ) (found : Option ℕ) → slice_get l.first.items state ≡ Some found → IsLeastFound (IsBehindFrom l.body.pairs state l.number) found;
  each_next : (number : ℕ) (pair : NumberPair) (found : Option ℕ) → l.number ≤ number → slice_get l.body.pairs number ≡ Some pair → slice_get l.next.items number ≡ Some found → IsLeastFound (IsBehindFrom l.body.pairs pair.behind (number + 1)) found;
}
