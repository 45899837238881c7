use Rattle.std.proofs.Common.{ℕ, ◌<◌, ◌≤◌, length}
use Rattle.brl_search.specs.Smaller.{IsNone}
use Rattle.brl_search.proofs.small.ClashFilter.without_one.Given as goal

abbrev pub invariant-loop-place : goal.invariant-loop-place
invariant-loop-place l = (i : ℕ) → i < l.place → (j : ℕ) → j ≤ length l.texts.right.items → IsNone l.self.table.now l.self.rules l.texts i j
