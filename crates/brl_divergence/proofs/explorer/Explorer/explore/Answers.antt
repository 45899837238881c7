use Rattle.std.proofs.Common.{◌≡◌, List, length, inl, inr, sym, ap, subst, arith}
use Rattle.std.proofs.lemmas.Bool.{cases_eq}
use Rattle.brl_pairs.proofs.Lists.{inside}
use Rattle.brl_closure.proofs.Adding.{adds_as, adds_trans}
use Rattle.brl_closure.proofs.Edges.{walked_more}
use Rattle.brl_closure.specs.Edges.{IsWalked}
use Rattle.brl_closure.specs.Trail.{IsMoveOf, TakesStep}
use Rattle.brl_divergence.specs.Expanded.{AreExpanded}
use Rattle.brl_divergence.specs.Found.{IsOfSplit}
use Rattle.brl_divergence.proofs.Splits.{followed_on, move_of_split}
use Rattle.brl_divergence.proofs.Steps.{kept_edges}
use Rattle.brl_divergence.proofs.explorer.Explorer.explore.Goals as goal

pub find_split-requires-clause-active : goal.find_split-requires-clause-active
find_split-requires-clause-active g c = c.requires.explored.ready.active

pub loop-next-init : goal.loop-next-init
loop-next-init g c =
    let t = c.args.trail.now in
    let u = c.find_split.new.trail in
    let first = c.args.first.now.place in
    let second = c.args.second.now.place in
    let adds = c.find_split.ensures.adds (length t.pairs) in
    record {
      active = c.in_ok-find_split.ensures.advances.0;
      adds = adds;
      low = omega (arith, c.len-next.ensures);
      walked = λ n less.
          walked_more (g.M.Machine.behaviour c.args.self.now.finder.now.machine.now) t.states u.states t.pairs u.pairs c.in_ok-find_split.ensures.advances.1.states c.in_ok-find_split.ensures.advances.1.pairs n
          (c.requires.explored.walked n (omega (arith, less, c.len-next.ensures)));
      followed = c.in_ok-find_split.ensures.followed;
    }

pub walk-requires-clause-active : goal.walk-requires-clause-active
walk-requires-clause-active g c = c.loop-next.invariant.active

pub walk-requires-clause-edges : goal.walk-requires-clause-edges
walk-requires-clause-edges g c =
    let m = g.M.Machine.behaviour c.args.self.now.finder.now.machine.now in
    let e = c.args.self.now.expanded.now in
    let h : AreExpanded m c.loop-next.trail.states e = subst (λ (xs : List g.row.M-State.Denot). AreExpanded m xs e) (sym c.loop-next.invariant.adds.states) c.requires.explored.ready.expanded in
    rw (c.as_slice-cells.ensures.members, c.as_slice.ensures.value) (kept_edges m c.loop-next.trail.states e h)

pub walk-requires-clause-pair : goal.walk-requires-clause-pair
walk-requires-clause-pair g c =
    let t = c.loop-next.trail in
    let p = inside t.pairs c.loop-next.next (omega arith) in
    let range = c.loop-next.invariant.active.traced.in_range c.loop-next.next p.0 p.1 in
    let states : length t.states ≡ length c.args.trail.now.states = ap length c.loop-next.invariant.adds.states in
    (p.0, p.1, rw c.as_slice.ensures.value (omega (arith, range.behind, states, c.requires.explored.ready.all)))

pub loop-next-preserved : goal.loop-next-preserved
loop-next-preserved g c =
    let m = g.M.Machine.behaviour c.args.self.now.finder.now.machine.now in
    let from = length c.args.trail.now.pairs in
    let t = c.loop-next.trail in
    let u = c.walk.new.trail in
    let first = c.args.first.now.place in
    let second = c.args.second.now.place in
    let advances = c.in_ok-walk.ensures.advances in
    record {
      active = advances.0;
      adds = adds_trans (IsOfSplit c.args.state first second from) c.args.trail.now t u c.loop-next.invariant.adds
          (adds_as (IsMoveOf c.loop-next.next) (IsOfSplit c.args.state first second from) t u (move_of_split c.args.state first second from c.loop-next.next c.loop-next.invariant.low) c.walk.ensures.adds);
      low = omega (arith, c.loop-next.invariant.low);
      walked = λ n less. elim (cases_eq n c.loop-next.next) [
        | inl here ↦ subst (IsWalked m u.states u.pairs) (sym here) c.in_ok-walk.ensures.walked
        | inr other ↦ walked_more m t.states u.states t.pairs u.pairs advances.1.states advances.1.pairs n (c.loop-next.invariant.walked n (omega (arith, less, other)))
      ];
      followed = λ x y x_taken y_taken.
          followed_on t u c.walk.ensures.adds.states advances.1.pairs x y
          (c.loop-next.invariant.followed x y
          (subst (λ (xs : List g.row.M-State.Denot). TakesStep m xs c.args.state first x) c.walk.ensures.adds.states x_taken)
          (subst (λ (xs : List g.row.M-State.Denot). TakesStep m xs c.args.state second y) c.walk.ensures.adds.states y_taken));
    }

pub returns-clause-explored : goal.returns-clause-explored
returns-clause-explored g c =
    let t = c.loop-next.trail in
    let ready = c.requires.explored.ready in
    let states = c.loop-next.invariant.adds.states in
    record {
      ready = record {
        active = c.loop-next.invariant.active;
        expanded = subst (λ (xs : List g.row.M-State.Denot). AreExpanded (g.M.Machine.behaviour c.args.self.now.finder.now.machine.now) xs c.args.self.now.expanded.now) (sym states) ready.expanded;
        all = let same : length t.states ≡ length c.args.trail.now.states = ap length states in omega (arith, ready.all, same);
      };
      walked = λ n less. c.loop-next.invariant.walked n (omega arith);
    }

pub returns-in_err-find_split-clause-adds : goal.returns-in_err-find_split-clause-adds
returns-in_err-find_split-clause-adds g c = c.find_split.ensures.adds (length c.args.trail.now.pairs)

pub returns-in_err-walk-clause-adds : goal.returns-in_err-walk-clause-adds
returns-in_err-walk-clause-adds g c =
    let from = length c.args.trail.now.pairs in
    let t = c.loop-next.trail in
    let u = c.walk.new.trail in
    let first = c.args.first.now.place in
    let second = c.args.second.now.place in
    adds_trans (IsOfSplit c.args.state first second from) c.args.trail.now t u c.loop-next.invariant.adds
    (adds_as (IsMoveOf c.loop-next.next) (IsOfSplit c.args.state first second from) t u (move_of_split c.args.state first second from c.loop-next.next c.loop-next.invariant.low) c.walk.ensures.adds)
