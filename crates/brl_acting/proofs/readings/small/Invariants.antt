use Rattle.std.proofs.Common.{◌≡◌, drop}
use Rattle.brl_acting.specs.Readings.{small_by}
use Rattle.brl_acting.proofs.readings.small.Given as goal

abbrev pub invariant-loop-capital : goal.invariant-loop-capital
invariant-loop-capital l = small_by (drop l.capital-index l.bases) l.character ≡ small_by l.bases l.character
