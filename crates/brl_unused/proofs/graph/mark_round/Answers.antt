use Rattle.std.proofs.Common.{◌≡◌, ◌∙◌, ◌-◌, ◌<◌, ◌≤◌, ℕ, Bool, List, arith, inl, inr, subst, sym}
use Rattle.brl_pairs.proofs.Lists.{three_ways}
use Rattle.brl_unused.specs.Marking.{IsClosedAt, unmarked}
use Rattle.brl_unused.proofs.graph.mark_round.Goals as goal

-- no state is marked at this place
pub loop-place-preserved : goal.loop-place-preserved
loop-place-preserved g c =
    let f = c.args.found.now in
    let live = c.loop-place.live.items in
    let before = c.loop-place.invariant in
    let marks = c.in_ok-mark_at.ensures in
    let same = marks.same c.if-branch.false in
    let some = c.loop-place-test.true in
    record {
      count = marks.count ∙ before.count;
      within = (let low = before.within in omega (arith, low));
      marked = λ ends are. marks.marked ends (before.marked ends are);
      most = subst (λ (l : List Bool). unmarked l ≤ unmarked c.args.live.now.items) (sym same) before.most;
      fewer = λ more. subst (λ (l : List Bool). unmarked l < unmarked c.args.live.now.items) (sym same) (before.fewer more);
      closed = λ none place low.
          subst (λ (l : List Bool). IsClosedAt f l place) (sym same) (elim (three_ways place (c.loop-place.place - 1)) [
            | inl less ↦ absurd (omega (arith, low, less))
            | inr rest ↦ elim rest [
              | inl here ↦ subst (λ (k : ℕ). IsClosedAt f live k) (sym here) (marks.closed c.if-branch.false)
              | inr after ↦ before.closed none place (omega (arith, after, some))
            ]
          ]);
    }
