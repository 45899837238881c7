use Rattle.std.proofs.Common.{◌≡◌, rules, subst, sym}
use Rattle.brl_states.specs.Order.{AreDues, in_order}
use Rattle.brl_states.proofs.Sorting.{in_order-AreDues, sorted-in_order}
use Rattle.brl_states.proofs.list.DueList.in_order.Goals as goal

pub invariant_of-result : goal.invariant_of-result
invariant_of-result c =
    let is : c.dedup.new.self.items ≡ in_order c.args.found.items =
    sorted-in_order c.args.found.items c.sort_unstable_by.new.self.items c.dedup.new.self.items c.sort_unstable_by.ensures.permutation c.sort_unstable_by.ensures.sorted (λ f a r f' called. search rules) c.dedup.ensures.filtered in
    subst AreDues (sym is) (in_order-AreDues c.args.found.items c.requires)

pub returns : goal.returns
returns c =
    sorted-in_order c.args.found.items c.sort_unstable_by.new.self.items c.dedup.new.self.items c.sort_unstable_by.ensures.permutation c.sort_unstable_by.ensures.sorted (λ f a r f' called. search rules) c.dedup.ensures.filtered
