use Rattle.std.proofs.Common.{None, sym, ◌∙◌}
use Rattle.brl_closure.proofs.Passing.{none_found_here, none_so_far, split_found}
use Rattle.brl_closure.proofs.check.pass.missing_after.Goals as goal

pub returns-then-is_some-2-clause-missing : goal.returns-then-is_some-2-clause-missing
returns-then-is_some-2-clause-missing g c =
    let a = c.args in
    let m = g.M.Machine.behaviour a.at.now.machine.now in
    let before = none_so_far m a.at.now.body.now a.state a.at.now.excused.now a.missing (sym c.is_some.ensures ∙ c.if-is_some.false) c.requires.missing in
    split_found m a.at.now.body.now a.state a.at.now.excused.now c.in_ok-split.split None (sym c.is_some-2.ensures ∙ c.if-is_some-2.true) before.0 c.in_ok-split.ensures.found

pub returns-clause-missing : goal.returns-clause-missing
returns-clause-missing g c =
    let a = c.args in
    let m = g.M.Machine.behaviour a.at.now.machine.now in
    let before = none_so_far m a.at.now.body.now a.state a.at.now.excused.now a.missing (sym c.is_some.ensures ∙ c.if-is_some.false) c.requires.missing in
    none_found_here m a.at.now.body.now a.state a.at.now.excused.now c.in_ok-split.split c.in_ok-pair.pair (sym c.is_some-2.ensures ∙ c.if-is_some-2.false) before.0 c.in_ok-split.ensures.found c.in_ok-pair.ensures
