use Rattle.std.proofs.Common.{rules}
use Rattle.brl_rules.proofs.SortedRanking.{ranking_from_sort}
use Rattle.brl_rules.proofs.table.rank.Goals as goal

pub returns-clause-ranking : goal.returns-clause-ranking
returns-clause-ranking c = ranking_from_sort c.args.rules.now.items c.sort_by.new.self.items c.in_ok-sort_by.ensures.sorted c.in_ok-sort_by.ensures.stable (λ f a r f' called. search rules)
