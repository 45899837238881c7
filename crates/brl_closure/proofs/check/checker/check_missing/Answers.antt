use Rattle.std.proofs.Common.{length}
use Rattle.std.proofs.lemmas.Option.{MatchOption-at_some}
use Rattle.brl_closure.specs.Excusing.{MissesUnexcused}
use Rattle.brl_closure.specs.Pass.{IsLeastSplit, IsPairFound, MissesNoSplitBelow}
use Rattle.brl_closure.proofs.Passing.{no_pair_at_end, no_split_at_end, pair_at_end}
use Rattle.brl_closure.proofs.check.checker.check_missing.Goals as goal

pub returns-in-Some-clause-refused : goal.returns-in-Some-clause-refused
returns-in-Some-clause-refused g c =
    let m = g.M.Machine.behaviour c.args.machine.now in
    let body = c.args.body.now in
    let end = length body.states in
    let least = MatchOption-at_some (MissesNoSplitBelow (MissesUnexcused m c.args.excused.now body) end × IsPairFound m body end c.in_ok-missing.missing.pair) (IsLeastSplit (MissesUnexcused m c.args.excused.now body)) c.in-Some.split c.in-Some.is c.in_ok-missing.ensures.missing in
    (c.requires.start, c.in_ok-missing.ensures.complete, least.state, least.lesser, least.greater)

pub returns-in-Some-pair-clause-refused : goal.returns-in-Some-pair-clause-refused
returns-in-Some-pair-clause-refused g c =
    let m = g.M.Machine.behaviour c.args.machine.now in
    let body = c.args.body.now in
    let h = no_split_at_end m body c.args.excused.now c.in_ok-missing.missing c.in_default.not-Some c.in_ok-missing.ensures.missing in
    let least = pair_at_end m body c.in_ok-missing.missing.pair c.in-Some-pair.least c.in-Some-pair.is h.1 in
    (c.requires.start, c.in_ok-missing.ensures.complete, h.0, least.0, least.1)

pub returns-clause-splits : goal.returns-clause-splits
returns-clause-splits g c = (no_split_at_end (g.M.Machine.behaviour c.args.machine.now) c.args.body.now c.args.excused.now c.in_ok-missing.missing c.in_default.not-Some c.in_ok-missing.ensures.missing).0

pub returns-clause-moves : goal.returns-clause-moves
returns-clause-moves g c =
    let m = g.M.Machine.behaviour c.args.machine.now in
    let body = c.args.body.now in
    let h = no_split_at_end m body c.args.excused.now c.in_ok-missing.missing c.in_default.not-Some c.in_ok-missing.ensures.missing in
    no_pair_at_end m body c.in_ok-missing.missing.pair c.in_default-pair.not-Some h.1
