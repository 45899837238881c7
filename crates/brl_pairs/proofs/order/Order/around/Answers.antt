use Rattle.std.proofs.Common.{◌≡◌, ◌-◌, ℕ, List, length, map, refl, sym, subst, arith, false, true}
use Rattle.brl_pairs.specs.Order.{IsCutAt, all_at, at, is_low}
use Rattle.brl_pairs.proofs.OrderLaws.{around_split, before_not_after, same_length}
use Rattle.brl_pairs.proofs.order.Order.around.Goals as goal

pub beginning-requires-clause-none_after : goal.beginning-requires-clause-none_after
beginning-requires-clause-none_after g c place below =
    let numbers = c.args.self.now.numbers.items in
    let kept = map g.W.Sequence.numbers c.args.kept.now in
    let key = g.W.Sequence.numbers c.args.key.now in
    let first = subst (λ (l : List ℕ). IsCutAt (λ place. is_low false key (at (all_at kept l) place)) 0 (length l) c.first_place-from.result) c.as_slice-numbers.ensures.value c.first_place-from.ensures in
    before_not_after (at (all_at kept numbers) place) key (first.low place (omega arith) below)

pub returns : goal.returns
returns g c =
    let numbers = c.args.self.now.numbers.items in
    let kept = map g.W.Sequence.numbers c.args.kept.now in
    let key = g.W.Sequence.numbers c.args.key.now in
    let all = all_at kept numbers in
    let many : length numbers ≡ length all = sym (same_length kept numbers) in
    let from = c.first_place-from.result in
    let end = c.first_place-end.result in
    let first : IsCutAt (λ place. is_low false key (at all place)) 0 (length all) from = subst (λ (n : ℕ). IsCutAt (λ place. is_low false key (at all place)) 0 n from) many
    (subst (λ (l : List ℕ). IsCutAt (λ place. is_low false key (at (all_at kept l) place)) 0 (length l) from) c.as_slice-numbers.ensures.value c.first_place-from.ensures) in
    let last : IsCutAt (λ place. is_low true key (at all place)) from (length all) end = subst (λ (n : ℕ). IsCutAt (λ place. is_low true key (at all place)) from n end) many
    (subst (λ (l : List ℕ). IsCutAt (λ place. is_low true key (at (all_at kept l) place)) from (length l) end) c.as_slice-numbers.ensures.value c.first_place-end.ensures) in
    around_split all c.requires.in_order.ascending key from end first last c.in_ok-shorter.shorter.items (end - from) refl c.in_ok-shorter.ensures
