use Rattle.std.proofs.Common.{◌≡◌, ◌<◌, ℕ, Some, slice_get}
use Rattle.brl_rules.specs.declared.rule.Info.{Info}
use Rattle.brl_rules.proofs.parts.TableParts.are_numbered.Given as goal

abbrev pub invariant-loop-place : goal.invariant-loop-place
invariant-loop-place l =
    (k : ℕ) (entry : ℕ × Info) → k < l.place → slice_get l.self.characters.entries k ≡ Some entry → entry.1.number ≡ k
