use Rattle.std.proofs.Common.{◌<◌, ◌≤◌, length}
use Rattle.brl_contexts.specs.Changes.{IsRepeated}
use Rattle.brl_contexts.proofs.changes.is_repeated.Given as goal

abbrev pub invariant-loop-left : goal.invariant-loop-left
invariant-loop-left l = record {
  within : l.left ≤ length l.changes;
  none : (r : IsRepeated l.cells l.forms l.form l.next l.changes) → r.place < l.left;
}

abbrev pub decreases-loop-left : goal.decreases-loop-left
decreases-loop-left l = l.left
