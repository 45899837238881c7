use Rattle.brl_states.proofs.Ordered.{members-after, members-before, own-order}
use Rattle.brl_states.proofs.Sorting.{in_order-AreDues}
use Rattle.brl_states.proofs.laws.order_law.Goals as goal

pub returns-clause-kept : goal.returns-clause-kept
returns-clause-kept c = own-order

pub returns-clause-made : goal.returns-clause-made
returns-clause-made c = in_order-AreDues

pub returns-clause-members : goal.returns-clause-members
returns-clause-members c dues due = (members-before dues due, members-after dues due)
