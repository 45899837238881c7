use Rattle.std.proofs.Common.{◌≡◌}
use Rattle.brl_slips.proofs.HabitsOfTallies.{kept_below}
use Rattle.brl_slips.proofs.habit.without_habits.Given as goal

abbrev pub invariant-loop-number : goal.invariant-loop-number
invariant-loop-number l = l.kept.items ≡ kept_below l.lexicon l.slips l.number
