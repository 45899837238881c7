use Rattle.std.proofs.Common.{◌≡◌, true, false, not, slice_get, inl, inr, refl, sym, ◌∙◌, ap, arith}
use Rattle.std.proofs.lemmas.Bool.{cases_eq, not-false}
use Rattle.std.proofs.lemmas.Option.{slice_get_within}
use Rattle.brl_pairs.specs.declared.step.Step.{Step}
use Rattle.brl_pairs.proofs.Lists.{read_at, same_place}
use Rattle.brl_closure.proofs.search.finder.Finder.place_to.Goals as goal

pub loop-place-init : goal.loop-place-init
loop-place-init g c =
    let p = c.requires.leads in
    let taken = p.1.taken in
    (p.0, omega arith, p.1.step, ap (λ l. slice_get l p.0) (c.in_ok-listed.ensures.steps taken.state taken.at) ∙ taken.listed, p.1.next)

pub index-requires : goal.index-requires
index-requires g c =
    let inv = c.loop-place.invariant in
    let within = slice_get_within c.in_ok-listed.listed.items inv.0 inv.2 inv.3 in
    omega (arith, within, inv.1, c.in_ok-listed.listed.ok.0)

pub loop-place-preserved : goal.loop-place-preserved
loop-place-preserved g c =
    let inv = c.loop-place.invariant in
    let listed = c.in_ok-listed.listed.items in
    let place = c.loop-place.place in
    elim (cases_eq inv.0 place) [
      | inl here ↦ absurd (
          let within = slice_get_within listed inv.0 inv.2 inv.3 in
          let at = read_at listed listed place c.index.result.now refl (omega (arith, within, here)) c.index.ensures in
          let same = same_place listed place inv.2 c.index.result.now (ap (slice_get listed) (sym here) ∙ inv.3) at in
          let next : c.index.result.now.next ≡ c.args.to.now = ap (λ (x : Step g.row.M-State.Denot). x.next) (sym same) ∙ inv.4 in
          let itself : g.M.State.PartialEq.eq c.index.result.now.next c.args.to.now ≡ true = ap (g.M.State.PartialEq.eq c.index.result.now.next) (sym next) ∙ g.met.M.State.Eq.laws.refl c.index.result.now.next in
          let other : not (g.M.State.PartialEq.eq c.index.result.now.next c.args.to.now) ≡ true = sym c.ne.ensures ∙ c.loop-place-test.true in
          (let wrong : false ≡ true = sym (ap not itself) ∙ other in cc))
      | inr other ↦ (inv.0, omega (arith, inv.1, other), inv.2, inv.3, inv.4)
    ]

pub returns-clause-place : goal.returns-clause-place
returns-clause-place g c =
    let m = g.M.Machine.behaviour c.args.self.now.machine.now in
    let inv = c.loop-place.invariant in
    let listed = c.in_ok-listed.listed.items in
    let place = c.loop-place.place in
    let taken = c.requires.leads.1.taken in
    let within = slice_get_within listed inv.0 inv.2 inv.3 in
    let here = read_at listed (m.steps taken.state) place c.index.result.now (c.in_ok-listed.ensures.steps taken.state taken.at) (omega (arith, within, inv.1)) c.index.ensures in
    record {
      step = c.index.result.now;
      taken = record { state = taken.state; at = taken.at; listed = here };
      next = g.met.M.State.Key.same c.index.result.now.next c.args.to.now (not-false (g.M.State.PartialEq.eq c.index.result.now.next c.args.to.now) (sym c.ne.ensures ∙ c.loop-place-test.false));
    }

pub returns-clause-known : goal.returns-clause-known
returns-clause-known g c =
    c.in_ok-put.ensures (g.M.Machine.behaviour c.args.self.now.machine.now) c.args.states.now c.in_ok-listed.ensures.known (λ s at. inr (c.in_ok-listed.ensures.steps s at))
