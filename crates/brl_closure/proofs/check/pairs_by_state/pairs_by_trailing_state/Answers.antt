use Rattle.std.proofs.Common.{◌≡◌, ◌+◌, ◌-◌, ◌<◌, ℕ, Some, length, get_or, refl, sym, ap, ◌∙◌, subst, arith}
use Rattle.std.proofs.Math.ListN.{length-set}
use Rattle.std.proofs.lemmas.Option.{slice_get_read}
use Rattle.brl_closure.specs.Least.{IsLeastFound}
use Rattle.brl_closure.specs.Pass.{IsBehindFrom}
use Rattle.brl_closure.proofs.Chains.{first_step, next_step}
use Rattle.brl_closure.proofs.Numbers.{range_read}
use Rattle.brl_pairs.specs.Body.{NumberPair}
use Rattle.brl_closure.proofs.check.pairs_by_state.pairs_by_trailing_state.Goals as goal
use Rattle.brl_pairs.proofs.Lists.{read_at}

pub loop-number-preserved : goal.loop-number-preserved
loop-number-preserved g c =
    let pairs = c.args.body.now.pairs in
    let read = c.as_slice-pairs.result.now in
    let low = c.loop-number.number in
    let k = low - 1 in
    let next_low : low ≡ k + 1 = omega (arith, c.loop-number-test.true) in
    let within : k < length pairs = omega (arith, c.loop-number-test.true, c.loop-number.auto.number, c.pair_count-number.ensures) in
    let q = c.index-pairs-number.result in
    let same = c.as_slice-pairs.ensures.members ∙ c.pairs.ensures in
    let q_at = read_at read pairs k q same (omega (arith, within, ap length same)) c.index-pairs-number.is in
    let range = range_read (length c.args.body.now.states) pairs read same c.law.ensures.range.each_pair k within q c.index-pairs-number.is in
    let behind = (get_or read k q).behind in
    let is : behind ≡ q.behind = ap (λ (z : NumberPair). z.behind) (sym c.index-pairs-number.is) in
    let first = c.loop-number.first.items in
    let others = slice_get_read first (length first) behind c.index.result.now refl (omega (arith, is, range.behind, c.loop-number.invariant.first_count)) c.index.ensures in
    let least = subst (λ (s : ℕ). IsLeastFound (IsBehindFrom pairs s low) c.index.result.now) is (c.loop-number.invariant.each_first behind c.index.result.now others) in
    record {
      first_count = length-set first behind (Some k) ∙ c.loop-number.invariant.first_count;
      next_count = length-set c.loop-number.next.items k c.index.result.now ∙ c.loop-number.invariant.next_count;
      each_first = first_step pairs k low q q_at next_low first behind is c.loop-number.invariant.each_first;
      each_next = next_step pairs k low q q_at next_low c.loop-number.next.items c.index.result.now least c.loop-number.invariant.each_next;
    }

pub returns : goal.returns
returns g c =
    let pairs = c.args.body.now.pairs in
    let none : c.loop-number.number ≡ 0 = omega arith in
    record {
      first_count = c.loop-number.invariant.first_count;
      next_count = c.loop-number.invariant.next_count;
      each_first = λ state found at. subst (λ (n : ℕ). IsLeastFound (IsBehindFrom pairs state n) found) none (c.loop-number.invariant.each_first state found at);
      each_next = λ number pair found pair_at at. c.loop-number.invariant.each_next number pair found (omega (arith, none)) pair_at at;
    }
