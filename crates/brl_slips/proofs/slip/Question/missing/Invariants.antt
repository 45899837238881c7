use Rattle.std.proofs.Common.{◌≤◌, ◌<◌, ℕ, List}
use Rattle.brl_slips.specs.Finding.{IsLikeBy}
use Rattle.brl_slips.specs.declared.fault.Fault.TheVariants.{Missing}
use Rattle.brl_slips.proofs.slip.Question.missing.Given as goal

abbrev pub invariant-loop-place : goal.invariant-loop-place
invariant-loop-place l = (p : ℕ) → p < l.place → (row : List ℕ) → IsLikeBy l.self (Missing p) row → ⊥
