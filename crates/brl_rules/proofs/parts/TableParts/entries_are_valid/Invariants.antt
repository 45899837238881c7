use Rattle.std.proofs.Common.{◌≡◌, ◌<◌, ℕ, Some, length, map, slice_get}
use Rattle.std.specs.String.{string_bytes}
use Rattle.brl_rules.specs.declared.rule.Info.{Info}
use Rattle.brl_rules.specs.Limits.{IsEntry}
use Rattle.brl_rules.proofs.parts.TableParts.entries_are_valid.Given as goal

abbrev pub invariant-loop-place : goal.invariant-loop-place
invariant-loop-place l =
    (k : ℕ) (entry : ℕ × Info) → k < l.place → slice_get l.self.characters.entries k ≡ Some entry
    → IsEntry l.self.characters.entries (length (map string_bytes l.self.files.items)) entry.1
