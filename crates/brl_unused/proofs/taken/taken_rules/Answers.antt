use Rattle.std.proofs.Common.{◌≡◌, arith, length, subst, sym}
use Rattle.brl_unused.specs.Taken.{IsOverLimit}
use Rattle.brl_unused.proofs.Exploring.{over_limit}
use Rattle.brl_unused.proofs.taken.taken_rules.Goals as goal

pub returns : goal.returns
returns g c =
    let m = g.M.Machine.behaviour c.args.machine.now in
    let size : c.len.result ≡ length c.explore.new.found.order.items = (let len = c.len.ensures in omega (arith, len)) in
    subst (IsOverLimit m c.args.limit) (sym size) (over_limit m c.args.limit c.explore.new.found (c.in_ok-whole.ensures.passed c.if-whole.false) c.as_slice.ensures.one_number)
