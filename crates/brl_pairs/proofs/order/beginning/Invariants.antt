use Rattle.std.proofs.Common.{◌≡◌, ◌+◌, ◌≤◌, ℕ, true, map, nat_eq}
use Rattle.std.specs.List.{starts_with}
use Rattle.std.specs.Prelude.{reverse}
use Rattle.brl_pairs.specs.Order.{all_at, at}
use Rattle.brl_pairs.proofs.OrderLaws.{beginning_from}
use Rattle.brl_pairs.proofs.order.beginning.Given as goal

abbrev pub invariant-loop-last : goal.invariant-loop-last
invariant-loop-last g l = record {
  before : l.last ≤ l.end;
  begins : (place : ℕ) → l.last ≡ place + 1 → starts_with nat_eq (g.W.Sequence.numbers l.key) (at (all_at (map g.W.Sequence.numbers l.kept) l.order.numbers.items) place) ≡ true;
  found : beginning_from (all_at (map g.W.Sequence.numbers l.kept) l.order.numbers.items) (g.W.Sequence.numbers l.key) l.last l.end ≡ reverse l.found.items;
}

abbrev pub decreases-loop-last : goal.decreases-loop-last
decreases-loop-last g l = l.last
