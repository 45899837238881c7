use Rattle.std.proofs.Common.{◌≡◌, ◌+◌, ◌-◌, drop, length}
use Rattle.std.specs.List.{common_prefix_len}
use Rattle.brl_report.specs.Steps.{are_same}
use Rattle.brl_report.proofs.steps.common_prefix.Given as goal

abbrev pub decreases-loop-count : goal.decreases-loop-count
decreases-loop-count l = length l.left - l.count

abbrev pub invariant-loop-count : goal.invariant-loop-count
invariant-loop-count l =
    common_prefix_len are_same l.left l.right ≡ l.count + common_prefix_len are_same (drop l.count l.left) (drop l.count l.right)
