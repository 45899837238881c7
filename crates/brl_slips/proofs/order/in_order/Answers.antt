use Rattle.std.proofs.Common.{◌≡◌, ap, rules}
use Rattle.std.specs.Ordering.{is_lt}
use Rattle.std.proofs.lemmas.Fn.{always_returns_same}
use Rattle.std.proofs.lemmas.List.Sorted.{ranks_by}
use Rattle.brl_slips.specs.Order.{slip_cmp}
use Rattle.brl_slips.proofs.Ordering.{ordered}
use Rattle.brl_slips.proofs.order.in_order.Goals as goal

pub returns-clause-sorted : goal.returns-clause-sorted
returns-clause-sorted c =
    let slips = c.args.slips.now in
    c.sort_unstable_by.ensures.sorted (λ x y. is_lt (slip_cmp slips x y)) (ranks_by (ordered slips) (λ x. x))
    (always_returns_same _ (λ a r. is_lt r ≡ is_lt (slip_cmp slips a.0.now a.1.0.now)) _ (λ a r f k. (ap is_lt (search rules), search rules)))
