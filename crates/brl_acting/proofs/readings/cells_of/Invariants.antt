use Rattle.std.proofs.Common.{◌≡◌, flat_map, map, take}
use Rattle.brl_acting.specs.Readings.{cells_of}
use Rattle.brl_acting.specs.Sets.{set_view}
use Rattle.brl_acting.specs.PartsViews.{parts_view}
use Rattle.brl_acting.proofs.readings.cells_of.Given as goal

abbrev pub invariant-loop-parts : goal.invariant-loop-parts
invariant-loop-parts l = l.cells.items ≡ flat_map (cells_of (set_view l.given.near.now) l.given.facts l.given.signs.now) (map parts_view (take l.parts-index l.lines))
