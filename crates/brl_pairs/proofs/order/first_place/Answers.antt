use Rattle.std.proofs.Common.{◌≡◌, ◌+◌, ◌-◌, ◌/◌, ◌≤◌, ◌<◌, ℕ, false, true, length, map, sym, ◌∙◌, arith, true≢false}
use Rattle.std.proofs.lemmas.Bool.{false_from_ne_true}
use Rattle.brl_pairs.specs.Order.{all_at, at, is_low}
use Rattle.brl_pairs.proofs.OrderLaws.{low_before, same_length}
use Rattle.brl_pairs.proofs.order.first_place.Goals.{After-is_low}
use Rattle.brl_pairs.proofs.order.first_place.Goals as goal

-- those before one that is low are low
first_low : (g : _) (c : After-is_low g) → (i j : ℕ) → c.args.from ≤ i → i ≤ j → j < length c.args.numbers.now
    → is_low c.args.begins (g.W.Sequence.numbers c.args.key.now) (at (all_at (map g.W.Sequence.numbers c.args.kept.now) c.args.numbers.now) j) ≡ true
    → is_low c.args.begins (g.W.Sequence.numbers c.args.key.now) (at (all_at (map g.W.Sequence.numbers c.args.kept.now) c.args.numbers.now) i) ≡ true
first_low g c i j from le within h =
    let a = c.args in
    let kept = map g.W.Sequence.numbers a.kept.now in
    let all = all_at kept a.numbers.now in
    let same = same_length kept a.numbers.now in
    low_before all c.requires.in_order.ascending a.begins (g.W.Sequence.numbers a.key.now) a.from
    (λ asked place high less. c.requires.none_before asked place high (omega (arith, less, same))) i j from le (omega (arith, within, same)) h

half_below : (low high : ℕ) → low < high → low + (high - low) / 2 < high
half_below low high less = omega (arith, less)

pub loop-low-preserved-then-is_low : goal.loop-low-preserved-then-is_low
loop-low-preserved-then-is_low g c =
    let low = c.loop-low.low in
    let high = c.loop-low.high in
    let below = half_below low high c.loop-low-test.true in
    record {
      from = omega (arith, c.loop-low.invariant.from);
      between = omega (arith, below);
      within = c.loop-low.invariant.within;
      passed = λ place from less.
          first_low g (goal.at.loop-low-preserved-then-is_low g c).After-is_low place (low + (high - low) / 2) from (omega (arith, less)) (omega (arith, below, c.loop-low.invariant.within)) (sym c.is_low.ensures ∙ c.if-is_low.true);
      left = c.loop-low.invariant.left;
    }

pub loop-low-preserved : goal.loop-low-preserved
loop-low-preserved g c =
    let low = c.loop-low.low in
    let high = c.loop-low.high in
    let below = half_below low high c.loop-low-test.true in
    record {
      from = c.loop-low.invariant.from;
      between = omega arith;
      within = omega (arith, below, c.loop-low.invariant.within);
      passed = c.loop-low.invariant.passed;
      left = λ place from less. false_from_ne_true _ (λ h.
          true≢false (
          sym (first_low g (goal.at.loop-low-preserved g c).After-is_low (low + (high - low) / 2) place (omega (arith, c.loop-low.invariant.from)) from less h) ∙ sym c.is_low.ensures ∙ c.if-is_low.false));
    }
