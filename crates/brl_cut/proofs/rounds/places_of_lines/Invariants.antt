use Rattle.std.proofs.Common.{◌≡◌, map, take}
use Rattle.brl_lines.specs.Lines.{location_of}
use Rattle.brl_lines.specs.Views.{line_view, location_view}
use Rattle.brl_cut.proofs.rounds.places_of_lines.Given as goal

abbrev pub invariant-loop-line : goal.invariant-loop-line
invariant-loop-line l = map location_view l.places.items ≡ map location_of (map line_view (take l.line-index l.lines))
