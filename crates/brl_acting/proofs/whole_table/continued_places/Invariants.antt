use Rattle.std.proofs.Common.{◌≡◌, flat_map, map, take}
use Rattle.brl_acting.specs.WholeTable.{continued_places, file_view, place_view}
use Rattle.brl_acting.proofs.whole_table.continued_places.Given as goal

abbrev pub invariant-loop-file : goal.invariant-loop-file
invariant-loop-file l = map place_view l.places.items ≡ flat_map continued_places (map file_view (take l.file-index l.files))
