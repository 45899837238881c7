use Rattle.std.proofs.Common.{◌≡◌, ◌-◌, ◌+◌, ◌++◌, ◌∷◌, ◌≤◌, ◌<◌, ℕ, List, [], length, map, nat_eq, sym, ◌∙◌, ap, subst, arith, true}
use Rattle.std.specs.List.{starts_with}
use Rattle.brl_pairs.specs.Order.{AreBeginnings, IsLastBeginning, all_at, at}
use Rattle.brl_pairs.proofs.OrderLaws.{begins_next, chain_init, chain_step, next_before, same_length}
use Rattle.brl_pairs.proofs.order.beginning.Goals as goal

pub loop-last-init : goal.loop-last-init
loop-last-init g c =
    let a = c.args in
    let all = all_at (map g.W.Sequence.numbers a.kept.now) a.order.now.numbers.items in
    let key = g.W.Sequence.numbers a.key.now in
    let first = subst (λ (numbers : List ℕ). IsLastBeginning (all_at (map g.W.Sequence.numbers a.kept.now) numbers) key a.end c.last_beginning-last.result) c.as_slice-numbers.ensures.value c.last_beginning-last.ensures in
    record {
      before = first.before;
      begins = first.begins;
      found = chain_init all c.requires.order.in_order.ascending key a.end c.last_beginning-last.result first c.new-found.result.items c.new-found.ensures.items;
    }

pub loop-last-preserved : goal.loop-last-preserved
loop-last-preserved g c =
    let a = c.args in
    let kept = map g.W.Sequence.numbers a.kept.now in
    let numbers = a.order.now.numbers.items in
    let all = all_at kept numbers in
    let key = g.W.Sequence.numbers a.key.now in
    let shorter = c.as_slice-shorter.result.now in
    let last = c.loop-last.last in
    let some : 0 < last = omega arith in
    let low : last ≤ a.end = c.loop-last.invariant.before in
    let within : a.end ≤ length all = omega (arith, same_length kept numbers, c.requires.within) in
    let known : AreBeginnings all shorter = subst (AreBeginnings all) (sym c.as_slice-shorter.ensures.value) c.requires.order.beginnings in
    let listed : a.end ≤ length shorter = omega (arith, ap length c.as_slice-shorter.ensures.value, c.requires.order.many, c.requires.within) in
    let begins : starts_with nat_eq key (at all (last - 1)) ≡ true = c.loop-last.invariant.begins (last - 1) (omega (arith, some)) in
    record {
      before =
          let le = next_before all c.requires.order.in_order.ascending shorter known key a.end within listed c.requires.none_after last some low in
          omega (arith, le, low);
      begins = begins_next all c.requires.order.in_order.ascending shorter known key a.end within listed c.requires.none_after last some low begins;
      found = chain_step all c.requires.order.in_order.ascending shorter known key a.end within listed c.requires.none_after last some low begins c.loop-last.found.items c.push.new.self.items
          (c.in_ok-push.ensures.items ∙ ap (λ (n : ℕ). c.loop-last.found.items ++ n ∷ []) c.in_ok-place.ensures) c.loop-last.invariant.found;
    }
