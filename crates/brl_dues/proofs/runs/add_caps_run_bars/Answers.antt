use Rattle.std.proofs.Common.{◌≡◌, arith, subst, sym, true}
use Rattle.brl_dues.specs.Adding.{Adds}
use Rattle.brl_dues.proofs.Adding.{barred-Adds, rest-barred}
use Rattle.brl_dues.proofs.runs.add_caps_run_bars.Goals as goal

pub returns-then-shared-chars : goal.returns-then-shared-chars
returns-then-shared-chars c =
    let end : c.loop-i.i ≡ c.min-shared.result = omega (arith, c.loop-i-test.false, c.loop-i.auto.i-end) in
    subst (λ l. Adds l c.args.found.now.items c.add_choices.new.found.items true)
    (sym (rest-barred c.args.table.now c.args.past.now c.args.chars.now c.args.cond c.loop-i.i c.min-shared.result c.loop-i.invariant end c.if-shared-past.false c.if-shared-chars.true))
    (barred-Adds c.args.cond _ c.args.found.now.items c.add_choices.new.found.items c.in_ok-add_choices.ensures)
