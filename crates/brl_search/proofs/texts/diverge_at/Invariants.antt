use Rattle.std.proofs.Common.{◌≡◌, ◌-◌, drop, length}
use Rattle.brl_search.specs.Smaller.{diverge_at}
use Rattle.brl_search.proofs.texts.diverge_at.Given as goal

abbrev pub invariant-loop-count : goal.invariant-loop-count
invariant-loop-count l =
    diverge_at l.table l.texts.left.items l.texts.right.items l.pair l.left l.right ≡ diverge_at l.table l.texts.left.items l.texts.right.items l.pair (drop l.count l.left) (drop l.count l.right)

abbrev pub decreases-loop-count : goal.decreases-loop-count
decreases-loop-count l = length l.left - l.count
