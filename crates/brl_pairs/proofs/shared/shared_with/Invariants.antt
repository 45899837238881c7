use Rattle.std.proofs.Common.{◌≡◌, length}
use Rattle.brl_pairs.proofs.SharedLaws.{AreSharedSoFar}
use Rattle.brl_pairs.proofs.shared.shared_with.Given as goal

abbrev pub invariant-loop-edge : goal.invariant-loop-edge
invariant-loop-edge l = record {
  count : length l.shared.items ≡ l.edge-index;
  so_far : AreSharedSoFar l.sorted l.others l.shared.items l.next;
}
