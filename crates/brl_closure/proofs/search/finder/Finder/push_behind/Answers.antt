use Rattle.std.proofs.Common.{◌≡◌, List, length, get_or, sym, ap, ◌∙◌, subst, arith}
use Rattle.std.proofs.lemmas.Option.{slice_get_within}
use Rattle.std.proofs.lemmas.Result.{on_ok_weaker}
use Rattle.brl_pairs.specs.Body.{NumberPair}
use Rattle.std.specs.Prelude.{OnOk}
use Rattle.brl_closure.specs.KnownSteps.{AreKnown}
use Rattle.brl_closure.specs.Trail.{TakesStep}
use Rattle.brl_closure.specs.Path.{HasStepAt}
use Rattle.brl_closure.proofs.search.finder.Finder.push_behind.Goals as goal
use Rattle.brl_pairs.proofs.Lists.{read_at, same_place}

pub push_reads-requires-clause-step : goal.push_reads-requires-clause-step
push_reads-requires-clause-step g c =
    let p : NumberPair = get_or c.as_slice.result.now c.args.pair c.index-as_slice-pair.result in
    let within = slice_get_within c.args.trail.now.pairs c.args.pair c.requires.step.pair c.requires.step.at in
    let at = read_at c.as_slice.result.now c.args.trail.now.pairs c.args.pair c.index-as_slice-pair.result c.as_slice.ensures.members (omega (arith, within, ap length c.as_slice.ensures.members)) c.index-as_slice-pair.is in
    let same : c.requires.step.pair ≡ p = same_place c.args.trail.now.pairs c.args.pair c.requires.step.pair c.index-as_slice-pair.result c.requires.step.at at ∙ c.index-as_slice-pair.is in
    subst (λ (xs : List g.row.M-State.Denot). HasStepAt (g.M.Machine.behaviour c.args.self.now.machine.now) xs p.behind c.args.place) (sym c.as_slice-2.ensures.members)
    (subst (λ (q : NumberPair). HasStepAt (g.M.Machine.behaviour c.args.self.now.machine.now) c.args.trail.now.states q.behind c.args.place) same c.requires.step.step)

pub returns-clause-text : goal.returns-clause-text
returns-clause-text g c =
    let p : NumberPair = get_or c.as_slice.result.now c.args.pair c.index-as_slice-pair.result in
    let within = slice_get_within c.args.trail.now.pairs c.args.pair c.requires.step.pair c.requires.step.at in
    let at = read_at c.as_slice.result.now c.args.trail.now.pairs c.args.pair c.index-as_slice-pair.result c.as_slice.ensures.members (omega (arith, within, ap length c.as_slice.ensures.members)) c.index-as_slice-pair.is in
    on_ok_weaker c.push_reads.result
    (λ put q x q_at taken.
    (let same : q ≡ p = same_place c.args.trail.now.pairs c.args.pair q c.index-as_slice-pair.result q_at at ∙ c.index-as_slice-pair.is in
    put x (subst (λ (xs : List g.row.M-State.Denot). TakesStep (g.M.Machine.behaviour c.args.self.now.machine.now) xs p.behind c.args.place x) (sym c.as_slice-2.ensures.members)
    (subst (λ (r : NumberPair). TakesStep (g.M.Machine.behaviour c.args.self.now.machine.now) c.args.trail.now.states r.behind c.args.place x) same taken))))
    c.push_reads.ensures.text

pub push_reads-requires-clause-known : goal.push_reads-requires-clause-known
push_reads-requires-clause-known g c =
    subst (λ (xs : List g.row.M-State.Denot). AreKnown (g.M.Machine.behaviour c.args.self.now.machine.now) xs c.args.known.now) (sym c.as_slice-2.ensures.members) c.requires.known

pub returns-clause-known : goal.returns-clause-known
returns-clause-known g c =
    subst (λ (xs : List g.row.M-State.Denot). OnOk c.push_reads.result (AreKnown (g.M.Machine.behaviour c.args.self.now.machine.now) xs c.push_reads.new.known)) c.as_slice-2.ensures.members c.push_reads.ensures.known
