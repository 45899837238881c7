use Rattle.std.proofs.Common.{◌∙◌, ◌≤◌, ap, filter, map, subst}
use Rattle.brl_dues.specs.CapitalList.{capital_of}
use Rattle.brl_dues.specs.Capitals.{is_upper, letters}
use Rattle.brl_dues.proofs.Finding.{letters-all, passing-next}
use Rattle.brl_dues.proofs.cased.add_capitals.Goals as goal

pub loop-number-preserved : goal.loop-number-preserved
loop-number-preserved c =
    let t = c.args.table.now in
    passing-next (capital_of t) (is_upper t) (letters t) c.loop-number.number c.char_at.result c.loop-number.found.items _ c.char_at.ensures c.loop-number.invariant c.in_ok-add_capital.ensures

pub returns : goal.returns
returns c =
    let t = c.args.table.now in
    c.loop-number.invariant
    ∙ ap (λ l. map (capital_of t) (filter (is_upper t) l)) (letters-all t c.loop-number.number (subst (λ n. n ≤ c.loop-number.number) c.char_count-number-end.ensures.count c.loop-number-test.false))
