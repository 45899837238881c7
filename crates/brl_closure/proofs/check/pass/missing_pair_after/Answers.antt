use Rattle.std.proofs.Common.{◌+◌, ◌<◌, ℕ, Option, Some, length, refl, sym, subst, arith}
use Rattle.std.proofs.lemmas.Option.{slice_get_read, slice_get_within}
use Rattle.brl_closure.specs.Least.{IsLeastFound}
use Rattle.brl_closure.specs.Pass.{IsBehind, IsBehindFrom}
use Rattle.brl_closure.specs.Refusals.{MissesPair}
use Rattle.brl_closure.proofs.LeastLaws.{none_found, this_found}
use Rattle.brl_closure.proofs.LeastRule.{refuted}
use Rattle.brl_closure.proofs.Passing.{AreFrom, IsAt, beyond_least, fewer_left, from_first, from_next, least_stays, left_from, lesser_found, none_from_end}
use Rattle.brl_closure.proofs.check.pass.missing_pair_after.Given.{Over}
use Rattle.brl_closure.proofs.check.pass.missing_pair_after.Goals.{In-Some, After-index-place-in-Some}
use Rattle.brl_closure.proofs.check.pass.missing_pair_after.Goals as goal

-- the pair at hand has its run behind in this state
is_behind : (g : Over) (c : In-Some g) → IsBehind c.args.at.now.body.now.pairs c.args.state c.in-Some.number
is_behind g c = subst (IsAt (g.M.Machine.behaviour c.args.at.now.machine.now) c.args.at.now.body.now c.args.state) c.in-Some.is c.loop-place.invariant.at

-- the pairs of this state that miss one are not before it
are_from : (g : Over) (c : In-Some g) → AreFrom (g.M.Machine.behaviour c.args.at.now.machine.now) c.args.at.now.body.now c.args.state (Some c.in-Some.number)
are_from g c = subst (AreFrom (g.M.Machine.behaviour c.args.at.now.machine.now) c.args.at.now.body.now c.args.state) c.in-Some.is c.loop-place.invariant.from

is_within : (g : Over) (c : In-Some g) → c.in-Some.number < length c.args.at.now.body.now.pairs
is_within g c = (let behind = is_behind g c in slice_get_within c.args.at.now.body.now.pairs c.in-Some.number behind.pair behind.at)

-- the place that is read is that of the next pair of this state
is_next : (g : Over) (c : After-index-place-in-Some g) → IsBehind c.args.at.now.body.now.pairs c.args.state c.in-Some.number → IsLeastFound (IsBehindFrom c.args.at.now.body.now.pairs c.args.state (c.in-Some.number + 1)) c.index-place-in-Some.result.now
is_next g c behind =
    let pairs = c.args.at.now.body.now.pairs in
    let number = c.in-Some.number in
    let next = c.args.behind.now.next.items in
    let place = c.index-place-in-Some.result.now in
    let within = slice_get_within pairs number behind.pair behind.at in
    let at = slice_get_read next (length next) number place refl (omega (arith, within, c.requires.behind.next_count)) c.index-place-in-Some.ensures in
    subst (λ (s : ℕ). IsLeastFound (IsBehindFrom pairs s (number + 1)) place) behind.behind (c.requires.behind.each_next number behind.pair place behind.at at)

pub loop-place-init : goal.loop-place-init
loop-place-init g c =
    let a = c.args in
    let first = a.behind.now.first.items in
    let place = c.index-place.result.now in
    let at = slice_get_read first (length first) a.state place refl (omega (arith, c.requires.within, c.requires.behind.first_count)) c.index-place.ensures in
    let h = from_first (g.M.Machine.behaviour a.at.now.machine.now) a.at.now.body.now a.state place (c.requires.behind.each_first a.state place at) in
    record { at = h.0; from = h.1 }

pub returns-then-not-comes_before : goal.returns-then-not-comes_before
returns-then-not-comes_before g c =
    let a = c.args in
    let m = g.M.Machine.behaviour a.at.now.machine.now in
    let from = are_from g (goal.at.returns-then-not-comes_before g c).In-Some in
    least_stays m a.at.now.body.now a.state a.least (beyond_least m a.at.now.body.now a.state a.least c.in-Some.number (refuted c.comes_before.result c.comes_before.ensures c.if-not-comes_before.true) from) c.requires.least

pub missing_pair_at-requires-clause-number : goal.missing_pair_at-requires-clause-number
missing_pair_at-requires-clause-number g c = is_within g (goal.at.missing_pair_at-requires-clause-number g c).In-Some

pub returns-in-Some-missing : goal.returns-in-Some-missing
returns-in-Some-missing g c =
    let a = c.args in
    let number = c.in-Some.number in
    let here = (goal.at.returns-in-Some-missing g c).In-Some in
    lesser_found (g.M.Machine.behaviour a.at.now.machine.now) a.at.now.body.now a.state a.least c.requires.least number (c.comes_before.ensures.0 c.if-not-comes_before.false) (is_behind g here) (are_from g here) c.in-Some-missing.rule
    (this_found (MissesPair (g.M.Machine.behaviour a.at.now.machine.now) a.at.now.body.now number) c.in_ok-missing.missing c.in-Some-missing.rule c.in-Some-missing.is c.in_ok-missing.ensures)

pub index-place-requires-in-Some : goal.index-place-requires-in-Some
index-place-requires-in-Some g c =
    let within = is_within g (goal.at.index-place-requires-in-Some g c).In-Some in
    omega (arith, within, c.requires.behind.next_count, c.args.behind.now.next.ok.0)

pub loop-place-smaller : goal.loop-place-smaller
loop-place-smaller g c =
    let a = c.args in
    let place = c.index-place-in-Some.result.now in
    let here = goal.at.loop-place-smaller g c in
    let behind = is_behind g here.In-Some in
    subst (λ (o : Option ℕ). left_from (length a.at.now.body.now.pairs) place < left_from (length a.at.now.body.now.pairs) o) (sym c.in-Some.is)
    (fewer_left (g.M.Machine.behaviour a.at.now.machine.now) a.at.now.body.now a.state c.in-Some.number behind place (is_next g here.After-index-place-in-Some behind))

pub loop-place-preserved : goal.loop-place-preserved
loop-place-preserved g c =
    let a = c.args in
    let m = g.M.Machine.behaviour a.at.now.machine.now in
    let number = c.in-Some.number in
    let here = goal.at.loop-place-preserved g c in
    let without = none_found (MissesPair m a.at.now.body.now number) c.in_ok-missing.missing c.in_default-missing.not-Some c.in_ok-missing.ensures in
    let h = from_next m a.at.now.body.now a.state number (are_from g here.In-Some) without c.index-place-in-Some.result.now (is_next g here.After-index-place-in-Some (is_behind g here.In-Some)) in
    record { at = h.0; from = h.1 }

pub returns : goal.returns
returns g c =
    let a = c.args in
    let m = g.M.Machine.behaviour a.at.now.machine.now in
    let none = none_from_end m a.at.now.body.now a.state c.loop-place.place c.in_default.not-Some c.loop-place.invariant.from in
    least_stays m a.at.now.body.now a.state a.least (λ k rule behind misses. absurd (none k rule behind misses)) c.requires.least
