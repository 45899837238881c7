use Rattle.std.proofs.Common.{◌≡◌, length}
use Rattle.brl_pairs.specs.Splits.{AreShorter}
use Rattle.brl_pairs.proofs.splits.shorter_of.Given as goal

abbrev pub invariant-loop-position : goal.invariant-loop-position
invariant-loop-position l = record {
  many : length l.shorter.items ≡ l.position;
  shorter : AreShorter l.cells l.sorted l.shorter.items;
}
