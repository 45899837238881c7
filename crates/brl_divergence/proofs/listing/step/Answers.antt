use Rattle.std.proofs.Common.{◌≡◌, ◌<◌, ◌≤◌, length, inl, inr, sym, ap, subst, arith}
use Rattle.std.proofs.lemmas.Bool.{cases_eq}
use Rattle.brl_divergence.specs.Found.{IsSettledState}
use Rattle.brl_divergence.proofs.Settling.{expanding_of, settled_state_more, settling_of}
use Rattle.brl_divergence.proofs.listing.step.Goals as goal

pub expand_next-requires-clause-parts : goal.expand_next-requires-clause-parts
expand_next-requires-clause-parts g c =
    let e = c.args.expanded.now in
    let it = c.args.found.now in
    let less : length e.edges.items < length it.trail.states = omega (arith, c.if-len.true, c.len.ensures, c.len-2.ensures, e.edges.ok.0) in
    let both = expanding_of g.M.Machine.behaviour g.M.Parted.steps_of c.args.finder.now e c.args.parts.now it c.args.settled.now c.requires.working less in
    both.0.kept_parts

pub returns-then-settled-len-clause-step : goal.returns-then-settled-len-clause-step
returns-then-settled-len-clause-step g c =
    let b = g.M.Machine.behaviour in
    let f = c.args.finder.now in
    let m = b f.machine.now in
    let e = c.args.expanded.now in
    let it = c.args.found.now in
    let next = c.settle_state.new.found in
    let settled = c.args.settled.now in
    let all : length it.trail.states ≤ length e.edges.items = omega (arith, c.if-len.false, c.len.ensures, c.len-2.ensures, e.edges.ok.0) in
    let before = settling_of b g.M.Parted.steps_of f e c.args.parts.now it settled c.requires.working all in
    let done = c.in_ok-settle_state.ensures in
    let same : length next.trail.states ≡ length it.trail.states = ap length done.keeps.states in
    let less : settled < length it.trail.states = omega (arith, c.if-settled-len.true, c.len-3.ensures) in
    record {
      working = inr (record {
        sound = done.sound;
        there = omega (arith, same, less);
        states = λ k below. elim (cases_eq k settled) [
          | inl here ↦ subst (IsSettledState m next) (sym here) done.settled
          | inr other ↦ settled_state_more it next done.keeps m k (before.states k (omega (arith, below, other)))
        ];
      });
      fewer = omega (arith, less, before.sound.explored.ready.active.few_states);
    }

pub returns-clause-done : goal.returns-clause-done
returns-clause-done g c =
    let e = c.args.expanded.now in
    let it = c.args.found.now in
    let all : length it.trail.states ≤ length e.edges.items = omega (arith, c.if-len.false, c.len.ensures, c.len-2.ensures, e.edges.ok.0) in
    let before = settling_of g.M.Machine.behaviour g.M.Parted.steps_of c.args.finder.now e c.args.parts.now it c.args.settled.now c.requires.working all in
    record {
      sound = before.sound;
      states = λ k less. before.states k (omega (arith, less, c.if-settled-len.false, c.len-3.ensures));
    }
