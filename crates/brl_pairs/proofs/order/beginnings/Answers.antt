use Rattle.std.proofs.Common.{◌≡◌, ◌+◌, ◌++◌, ◌∷◌, ℕ, List, [], length, map, false, sym, ◌∙◌, ap, subst, arith}
use Rattle.brl_pairs.specs.Order.{IsLastBeginning, all_at, at}
use Rattle.brl_pairs.specs.Sorted.{is_before}
use Rattle.brl_pairs.proofs.Lists.{length_push}
use Rattle.brl_pairs.proofs.OrderLaws.{later_not_before, one_more_beginning, same_length}
use Rattle.brl_pairs.proofs.order.beginnings.Goals as goal

pub last_beginning-last-requires-clause-none_after : goal.last_beginning-last-requires-clause-none_after
last_beginning-last-requires-clause-none_after g c place below =
    let numbers = c.args.numbers.now in
    let kept = map g.W.Sequence.numbers c.args.kept.now in
    let all = all_at kept numbers in
    subst (λ (own : List ℕ). is_before own (at all place) ≡ false) (sym c.at-own.ensures)
    (later_not_before all c.requires.ascending place c.loop-place.place (omega (arith, below)) (omega (arith, same_length kept numbers, c.loop-place-test.true)))

pub loop-place-preserved : goal.loop-place-preserved
loop-place-preserved g c =
    let all = all_at (map g.W.Sequence.numbers c.args.kept.now) c.args.numbers.now in
    let old = c.loop-place.shorter.items in
    let place = c.loop-place.place in
    let many : length old ≡ place = c.loop-place.invariant.many in
    let own : IsLastBeginning all (at all place) place c.last_beginning-last.result = subst (λ (key : List ℕ). IsLastBeginning all key place c.last_beginning-last.result) c.at-own.ensures c.last_beginning-last.ensures in
    record {
      many = ap length c.in_ok-push.ensures.items ∙ length_push old _ ∙ ap (λ (n : ℕ). n + 1) many;
      beginnings = one_more_beginning all old c.push.new.self.items place c.last_beginning-last.result many (c.in_ok-push.ensures.items ∙ ap (λ (n : ℕ). old ++ n ∷ []) c.in_ok-number.ensures) c.loop-place.invariant.beginnings own;
    }
