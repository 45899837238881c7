use Rattle.std.proofs.Common.{◌≡◌, map, take}
use Rattle.brl_closure.specs.Fresh.{number_at}
use Rattle.brl_closure.proofs.search.fresh.numbers_of.Given as goal

abbrev pub invariant-loop-place : goal.invariant-loop-place
invariant-loop-place l = l.numbers.items ≡ map (number_at l.fresh) (take l.place-index l.places)
