use Rattle.brl_unused.specs.Marking.{AreMarkedBy}
use Rattle.brl_unused.proofs.taken.rules_to_live.Given as goal

abbrev pub invariant-loop-place : goal.invariant-loop-place
invariant-loop-place g l = AreMarkedBy l.found l.live l.place l.rules l.marks.items
