use Rattle.brl_pairs.proofs.SharedLaws.{AreSplitsBefore}
use Rattle.brl_pairs.proofs.shared.unshared_splits.Given as goal

abbrev pub invariant-loop-position : goal.invariant-loop-position
invariant-loop-position l = AreSplitsBefore l.cells l.sorted l.shared l.limit l.position l.splits.items
