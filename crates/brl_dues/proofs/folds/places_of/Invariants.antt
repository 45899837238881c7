use Rattle.std.proofs.Common.{◌≡◌, ◌++◌, drop}
use Rattle.brl_dues.specs.ByFold.{places_from}
use Rattle.brl_dues.proofs.folds.places_of.Given as goal

abbrev pub invariant-loop-number : goal.invariant-loop-number
invariant-loop-number l = l.places.items ++ places_from l.number (drop l.number l.letters) ≡ places_from 0 l.letters
