use Rattle.std.proofs.Common.{◌≡◌, flat_map, map, take}
use Rattle.std.specs.List.{enumerate_from}
use Rattle.brl_acting.specs.Acting.{acting_at}
use Rattle.brl_acting.specs.Readings.{known_view}
use Rattle.brl_acting.specs.PartsViews.{parts_view}
use Rattle.brl_acting.proofs.judging.acting_places.Given as goal

abbrev pub invariant-loop-place : goal.invariant-loop-place
invariant-loop-place l = l.places.items ≡ flat_map (acting_at (known_view l.known)) (take l.place (enumerate_from 0 (map parts_view l.parts)))
