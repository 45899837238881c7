use Rattle.std.proofs.Common.{ℕ, ◌<◌}
use Rattle.brl_search.specs.Smaller.{IsNone}
use Rattle.brl_search.proofs.small.ClashFilter.without_one_at.Given as goal

abbrev pub invariant-loop-other : goal.invariant-loop-other
invariant-loop-other l = (j : ℕ) → j < l.other → IsNone l.self.table.now l.self.rules l.texts l.place j
