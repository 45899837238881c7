use Rattle.std.proofs.Common.{◌≡◌, map, string_bytes, take}
use Rattle.brl_lines.specs.Views.{location_view}
use Rattle.brl_cut.proofs.cutting.files_of_places.Given as goal

abbrev pub invariant-loop-place : goal.invariant-loop-place
invariant-loop-place l = map string_bytes l.paths.items ≡ map (λ place. place.file) (map location_view (take l.place-index l.places))
