use Rattle.std.proofs.Common.{◌≡◌, drop}
use Rattle.brl_dues.specs.Carry.{carry_capitals}
use Rattle.brl_dues.proofs.runs.add_caps_run_bars.Given as goal

abbrev pub invariant-loop-i : goal.invariant-loop-i
invariant-loop-i l = carry_capitals l.table l.past l.chars l.cond ≡ carry_capitals l.table (drop l.i l.past) (drop l.i l.chars) l.cond
