use Rattle.std.proofs.Common.{◌≤◌}
use Rattle.brl_pairs.proofs.SplitsLaws.{NoneBegins}
use Rattle.brl_pairs.proofs.splits.last_shorter.Given as goal

abbrev pub invariant-loop-last : goal.invariant-loop-last
invariant-loop-last l = record {
  before : l.last ≤ l.position;
  others : NoneBegins l.cells l.sorted l.last l.position l.own;
}

abbrev pub decreases-loop-last : goal.decreases-loop-last
decreases-loop-last l = l.last
