use Rattle.std.proofs.Common.{◌≡◌, ap, rules}
use Rattle.std.specs.Ordering.{is_lt}
use Rattle.std.proofs.lemmas.Fn.{always_returns_same}
use Rattle.std.proofs.lemmas.List.Sorted.{ranks_by}
use Rattle.brl_slips.specs.Twins.{twins_cmp}
use Rattle.brl_slips.proofs.Ranking.{ordered_twins}
use Rattle.brl_slips.proofs.twins.in_order.Goals as goal

pub returns-clause-sorted : goal.returns-clause-sorted
returns-clause-sorted c =
    c.sort_unstable_by.ensures.sorted (λ x y. is_lt (twins_cmp x y)) (ranks_by ordered_twins (λ x. x))
    (always_returns_same _ (λ a r. is_lt r ≡ is_lt (twins_cmp a.0.now a.1.0.now)) _ (λ a r f k. (ap is_lt {y = twins_cmp a.0.now a.1.0.now} (search rules), search rules)))
