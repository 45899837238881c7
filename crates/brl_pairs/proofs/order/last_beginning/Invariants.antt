use Rattle.std.proofs.Common.{◌≡◌, ◌<◌, ◌≤◌, ℕ, false, map, nat_eq}
use Rattle.std.specs.List.{starts_with}
use Rattle.brl_pairs.specs.Order.{all_at, at}
use Rattle.brl_pairs.proofs.order.last_beginning.Given as goal

abbrev pub invariant-loop-last : goal.invariant-loop-last
invariant-loop-last g l = record {
  before : l.last ≤ l.end;
  others : (place : ℕ) → l.last ≤ place → place < l.end → starts_with nat_eq (g.W.Sequence.numbers l.key) (at (all_at (map g.W.Sequence.numbers l.kept) l.numbers) place) ≡ false;
}

abbrev pub decreases-loop-last : goal.decreases-loop-last
decreases-loop-last g l = l.last
