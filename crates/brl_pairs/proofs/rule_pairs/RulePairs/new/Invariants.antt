use Rattle.std.proofs.Common.{take}
use Rattle.brl_pairs.specs.Excused.{AreLookedUp}
use Rattle.brl_pairs.proofs.rule_pairs.RulePairs.new.Given as goal

abbrev pub invariant-loop-pair : goal.invariant-loop-pair
invariant-loop-pair l = AreLookedUp (take l.pair-index l.pair-items) l.set.keys l.rules.keys
