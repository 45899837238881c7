use Rattle.std.proofs.Common.{◌≤◌, ◌<◌, ℕ, List}
use Rattle.brl_slips.specs.Finding.{IsLikeBy}
use Rattle.brl_slips.specs.declared.fault.Fault.TheVariants.{TooMany}
use Rattle.brl_slips.proofs.slip.Question.too_many.Given as goal

abbrev pub invariant-loop-place : goal.invariant-loop-place
invariant-loop-place l = (p : ℕ) → 1 ≤ p → p < l.place → (row : List ℕ) → IsLikeBy l.self (TooMany p) row → ⊥
