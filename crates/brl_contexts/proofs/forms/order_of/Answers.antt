use Rattle.std.proofs.Common.{◌≡◌, is_lt, length, rules, subst, sym}
use Rattle.std.proofs.lemmas.Cmp.{nat_list_cmp_total}
use Rattle.std.proofs.lemmas.Fn.{always_returns_same}
use Rattle.std.proofs.lemmas.List.Sorted.{ranks_by}
use Rattle.brl_contexts.specs.Forms.{HasAll}
use Rattle.brl_contexts.proofs.Orders.{all_in_order, has_all}
use Rattle.brl_contexts.proofs.forms.order_of.Goals as goal
use Rattle.brl_pairs.specs.Order.{at}
use Rattle.brl_pairs.specs.Sorted.{is_before}

pub new-requires : goal.new-requires
new-requires c =
    let reads = c.args.reads.now in
    all_in_order reads c.in_ok-numbers.numbers.items c.sort_unstable_by.new.self.items c.in_ok-numbers.ensures c.sort_unstable_by.ensures.permutation
    (c.sort_unstable_by.ensures.sorted (λ a b. is_before (at reads a) (at reads b)) (ranks_by nat_list_cmp_total (at reads))
    (always_returns_same _ (λ a r. is_lt r ≡ is_before (at reads a.0.now) (at reads a.1.0.now)) _ (λ a r f k. search rules)))

pub returns-clause-all : goal.returns-clause-all
returns-clause-all c =
    subst (HasAll (length c.args.reads.now)) (sym c.in_ok-order.ensures.numbers)
    (has_all c.args.reads.now c.in_ok-numbers.numbers.items c.sort_unstable_by.new.self.items c.in_ok-numbers.ensures c.sort_unstable_by.ensures.permutation)
