use Rattle.std.proofs.Common.{◌≡◌, drop, map}
use Rattle.brl_cut.specs.LetsignViews.{alone_view, known_view}
use Rattle.brl_cut.specs.Letsigns.{cells_alone}
use Rattle.brl_cut.proofs.letsign.cells_alone.Given as goal

abbrev pub invariant-loop-entry : goal.invariant-loop-entry
invariant-loop-entry l = cells_alone (known_view l.known) (map alone_view (drop l.entry-index l.alone)) l.character ≡ cells_alone (known_view l.known) (map alone_view l.alone) l.character
