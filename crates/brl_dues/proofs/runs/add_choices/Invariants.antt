use Rattle.std.proofs.Common.{◌≡◌, ◌++◌, map}
use Rattle.brl_states.specs.declared.due.Due.TheVariants.{Bar}
use Rattle.brl_dues.proofs.runs.add_choices.Given as goal

abbrev pub invariant-loop-text : goal.invariant-loop-text
invariant-loop-text l = l.found.items ≡ l.fn.found.items ++ map (λ text. Bar text l.cond) l.yielded
