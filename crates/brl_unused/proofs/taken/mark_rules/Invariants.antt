use Rattle.std.proofs.Common.{take}
use Rattle.brl_unused.specs.Marking.{MarksMore}
use Rattle.brl_unused.proofs.taken.mark_rules.Given as goal

abbrev pub invariant-loop-edge : goal.invariant-loop-edge
invariant-loop-edge l = MarksMore (take l.edge-index l.edges) l.live l.initial.marks.items l.marks.items
