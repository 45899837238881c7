use Rattle.std.proofs.Common.{length}
use Rattle.brl_closure.proofs.Passing.{AreFrom, IsAt, left_from}
use Rattle.brl_closure.proofs.check.pass.missing_pair_after.Given as goal

abbrev pub invariant-loop-place : goal.invariant-loop-place
invariant-loop-place g l = record {
  at : IsAt (g.M.Machine.behaviour l.at.machine.now) l.at.body.now l.state l.place;
  from : AreFrom (g.M.Machine.behaviour l.at.machine.now) l.at.body.now l.state l.place;
}

abbrev pub decreases-loop-place : goal.decreases-loop-place
decreases-loop-place g l = left_from (length l.at.body.now.pairs) l.place
