use Rattle.std.proofs.Common.{◌≡◌, ◌++◌, map, take}
use Rattle.brl_slips.specs.Counting.{case_of}
use Rattle.brl_slips.proofs.habit.push_cases.Given as goal

abbrev pub invariant-loop-difference : goal.invariant-loop-difference
invariant-loop-difference l = l.cases.items ≡ l.fn.cases.items ++ map (case_of l.entry) (take l.difference-index l.differences)
