use Rattle.std.proofs.Common.{ap, sym, false, rules, ◌≡◌, append-nil, ◌∙◌, ◌++◌}
use Rattle.brl_rules.proofs.SignLists.{signs-none}
use Rattle.brl_rules.proofs.table.Table.push_indicators_of.Goals as goal

pub returns-then-not-may_use_signs : goal.returns-then-not-may_use_signs
returns-then-not-may_use_signs c =
    let unused : c.may_use_signs.result ≡ false = search rules in
    sym (append-nil c.args.cells.now.items)
    ∙ ap (λ signs. c.args.cells.now.items ++ signs)
    (sym (signs-none c.args.self.now c.args.here c.args.run c.args.info.now (λ sign. c.may_use_signs.ensures unused c.args.self.now c.args.run sign)))
