use Rattle.std.proofs.Common.{◌≡◌, length, map}
use Rattle.brl_pairs.specs.Order.{AreBeginnings, all_at}
use Rattle.brl_pairs.proofs.order.beginnings.Given as goal

abbrev pub invariant-loop-place : goal.invariant-loop-place
invariant-loop-place g l = record {
  many : length l.shorter.items ≡ l.place;
  beginnings : AreBeginnings (all_at (map g.W.Sequence.numbers l.kept) l.numbers) l.shorter.items;
}
