use Rattle.std.proofs.Common.{rules}
use Rattle.brl_window.proofs.Sorting.{sorted_by_rule_number}
use Rattle.brl_window.proofs.steps.sort_steps.Goals as goal

pub returns : goal.returns
returns c =
    sorted_by_rule_number c.args.steps.now.items c.sort_by.new.self.items c.in_ok-sort_by.ensures.sorted c.in_ok-sort_by.ensures.stable (λ f a r f' called. search rules)
