use Rattle.std.proofs.Common.{◌≡◌, ◌-◌, ◌≤◌, ◌<◌, false, length, map, nat_eq, sym, ◌∙◌, ap, arith}
use Rattle.std.specs.List.{starts_with}
use Rattle.brl_pairs.specs.Order.{all_at, at}
use Rattle.brl_pairs.proofs.OrderLaws.{next_before, pass_by, same_length}
use Rattle.brl_pairs.proofs.order.last_beginning.Goals as goal

pub loop-last-preserved : goal.loop-last-preserved
loop-last-preserved g c =
    let a = c.args in
    let kept = map g.W.Sequence.numbers a.kept.now in
    let all = all_at kept a.numbers.now in
    let key = g.W.Sequence.numbers a.key.now in
    let last = c.loop-last.last in
    let some : 0 < last = omega arith in
    let low : last ≤ a.end = c.loop-last.invariant.before in
    let within : a.end ≤ length all = omega (arith, same_length kept a.numbers.now, c.requires.within) in
    let other : starts_with nat_eq key (at all (last - 1)) ≡ false = ap (starts_with nat_eq key) (sym c.at.ensures) ∙ sym c.begins_with.ensures ∙ c.if-not-begins_with.true in
    record {
      before =
          let le = next_before all c.requires.in_order.ascending a.shorter.now c.requires.beginnings key a.end within c.requires.known c.requires.none_after last some low in
          omega (arith, le, low);
      others = pass_by all c.requires.in_order.ascending a.shorter.now c.requires.beginnings key a.end within c.requires.known c.requires.none_after last some low other c.loop-last.invariant.others;
    }
