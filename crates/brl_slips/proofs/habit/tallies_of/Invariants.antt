use Rattle.std.proofs.Common.{take}
use Rattle.brl_slips.specs.Counting.{AreTallies}
use Rattle.brl_slips.proofs.habit.tallies_of.Given as goal

abbrev pub invariant-loop-case : goal.invariant-loop-case
invariant-loop-case l = AreTallies (take l.case-index l.cases) l.tallies.items
