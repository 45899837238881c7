use Rattle.std.proofs.Common.{◌≡◌, ◌-◌, length, map}
use Rattle.brl_dues.specs.Capitals.{letters}
use Rattle.brl_dues.specs.Letters.{bars_from}
use Rattle.brl_dues.proofs.FirstBars.{place_from}
use Rattle.brl_dues.proofs.starts.starts_of.Given as goal

-- of the dues from some place on, the places are right
abbrev pub invariant-loop-done : goal.invariant-loop-done
invariant-loop-done l = l.places.items ≡ map (λ c. place_from (bars_from c) l.dues (length l.dues - l.done)) (letters l.table)
