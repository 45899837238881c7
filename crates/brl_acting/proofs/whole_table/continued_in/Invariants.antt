use Rattle.std.proofs.Common.{◌≡◌, flat_map, map, take}
use Rattle.std.specs.List.{enumerate_from}
use Rattle.brl_acting.specs.WholeTable.{continued_at, place_view}
use Rattle.brl_acting.proofs.whole_table.continued_in.Given as goal

abbrev pub invariant-loop-place : goal.invariant-loop-place
invariant-loop-place l =
    map place_view l.places.items ≡ flat_map (continued_at l.path) (take l.place (enumerate_from 0 (map (λ row. row.now) l.row-items)))
