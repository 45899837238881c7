use Rattle.std.proofs.Common.{sym, subst}
use Rattle.brl_states.specs.Order.{AreDues}
use Rattle.brl_states.proofs.DueOrder.{no-dues}
use Rattle.brl_states.proofs.list.DueList.new.Goals as goal

pub invariant_of-result : goal.invariant_of-result
invariant_of-result c = subst AreDues (sym c.new.ensures.items) no-dues
