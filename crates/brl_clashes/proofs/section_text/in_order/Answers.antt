use Rattle.std.proofs.Common.{rules}
use Rattle.brl_clashes.proofs.Shown.{sorted_by}
use Rattle.brl_clashes.proofs.section_text.in_order.Goals as goal

pub returns-clause-sorted : goal.returns-clause-sorted
returns-clause-sorted c = sorted_by c.sort_unstable_by.new.self.items c.sort_unstable_by.ensures.sorted (λ f a r f' called. search rules)
