use Rattle.std.proofs.Common.{◌≡◌, take}
use Rattle.std.specs.List.{flat_map}
use Rattle.brl_slips.specs.Counting.{cases_of}
use Rattle.brl_slips.proofs.habit.cases_of.Given as goal

abbrev pub invariant-loop-slip : goal.invariant-loop-slip
invariant-loop-slip l = l.cases.items ≡ flat_map (cases_of l.lexicon) (take l.slip-index l.slips)
