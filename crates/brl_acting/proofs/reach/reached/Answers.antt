use Rattle.std.proofs.Common.{◌≡◌, ◌∙◌, ◌+◌, ◌-◌, ◌||◌, Bool, suc, true, List, ℕ, ap, arith, length, sym}
use Rattle.std.specs.List.{list_all}
use Rattle.brl_acting.specs.Capitals.{grown, reached_in, seconds}
use Rattle.brl_acting.specs.Sets.{is_in, set_view}
use Rattle.brl_acting.proofs.Reaching.{at_rest, step_more}
use Rattle.brl_acting.proofs.reach.reached.Goals as goal

pub loop-step-preserved : goal.loop-step-preserved
loop-step-preserved c =
    let pairs = c.args.pairs.now in
    let count = length pairs in
    let k = c.loop-step._step in
    let old = set_view c.loop-step.set in
    let next : c.as_slice-in-loop-step.result.now ≡ seconds pairs old = c.as_slice-in-loop-step.ensures.value ∙ c.in_ok-next.ensures in
    let new : set_view c.add.new.self ≡ grown pairs old = c.in_ok-add.ensures ∙ ap {B = ℕ → Bool} (λ (chars : List ℕ) (q : ℕ). old q || is_in chars q) next in
    let left : count - k ≡ suc (count - (k + 1)) = omega (arith, c.loop-step-test.true) in
    ap (reached_in (count - (k + 1)) pairs) new ∙ sym (step_more (count - k) pairs old (count - (k + 1)) left) ∙ c.loop-step.invariant

pub returns-then-has_all : goal.returns-then-has_all
returns-then-has_all c =
    let pairs = c.args.pairs.now in
    let set = set_view c.loop-step.set in
    let next : c.as_slice.result.now ≡ seconds pairs set = c.as_slice.ensures.value ∙ c.in_ok-next.ensures in
    let all : list_all set (seconds pairs set) ≡ true = sym (ap (list_all set) next) ∙ sym c.has_all.ensures ∙ c.if-has_all.true in
    sym (at_rest pairs set all (length pairs - c.loop-step._step)) ∙ c.loop-step.invariant

pub returns : goal.returns
returns c =
    let pairs = c.args.pairs.now in
    let none : length pairs - c.loop-step._step ≡ 0 = omega (arith, c.loop-step-test.false) in
    sym (ap (λ n. reached_in n pairs (set_view c.loop-step.set)) none) ∙ c.loop-step.invariant
