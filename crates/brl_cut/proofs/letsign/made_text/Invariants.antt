use Rattle.std.proofs.Common.{◌≡◌, flat_map, map, take}
use Rattle.brl_cut.specs.LetsignViews.{alone_view, known_view}
use Rattle.brl_cut.specs.Letsigns.{made_line_if}
use Rattle.brl_cut.proofs.letsign.made_text.Given as goal

abbrev pub invariant-loop-index : goal.invariant-loop-index
invariant-loop-index l = l.text.items ≡ flat_map (made_line_if (known_view l.known) (map alone_view l.alone.items)) (take l.index (known_view l.known).characters)
