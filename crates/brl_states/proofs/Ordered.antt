-- Putting dues in order keeps those that are in order, and keeps their members.
use Rattle.std.proofs.Common.{◌≡◌, List, sym, Contains}
use Rattle.brl_states.specs.declared.due.Due.{Due}
use Rattle.brl_states.specs.Order.{AreDues, in_order}
use Rattle.brl_states.proofs.DueOrder.{from-in_order, in-in_order, is-in_order}
use Rattle.brl_pairs.proofs.Listing.{Contains-in, in-Contains}

pub own-order : (dues : List Due) → AreDues dues → in_order dues ≡ dues
own-order dues h = sym (is-in_order dues dues h.ascend (λ d i. i) (λ d i. i))

-- putting in order keeps the members
pub members-before : (dues : List Due) (d : Due) → Contains (in_order dues) d → Contains dues d
members-before dues d c = in-Contains d dues (from-in_order d dues (Contains-in d (in_order dues) c))

pub members-after : (dues : List Due) (d : Due) → Contains dues d → Contains (in_order dues) d
members-after dues d c = in-Contains d (in_order dues) (in-in_order d dues (Contains-in d dues c))
