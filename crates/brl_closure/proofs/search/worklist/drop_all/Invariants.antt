use Rattle.std.proofs.Common.{◌≡◌, length}
use Rattle.brl_closure.specs.Edges.{AreSomeOf}
use Rattle.brl_closure.proofs.search.worklist.drop_all.Given as goal

abbrev pub invariant-loop-number : goal.invariant-loop-number
invariant-loop-number l = record {
  count : length l.expanded.items ≡ length l.fn.expanded.items;
  some : AreSomeOf l.fn.expanded.items l.expanded.items;
}
