use Rattle.std.proofs.Common.{[], get_or, map, take}
use Rattle.brl_rules.specs.declared.place.Cond.TheVariants.{Any}
use Rattle.brl_states.specs.declared.due.Due.TheVariants.{Need}
use Rattle.brl_dues.specs.Carry.{carry}
use Rattle.brl_dues.proofs.Adding.{HasAdded}
use Rattle.brl_dues.proofs.sharing.left_of_bars.Given as goal

abbrev pub invariant-loop-number : goal.invariant-loop-number
invariant-loop-number l = HasAdded (map (λ n. carry l.table l.reads (get_or l.bars n (Need Any))) (take l.number-index l.met)) [] l.left.items
