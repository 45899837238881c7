use Rattle.std.proofs.Common.{◌≡◌, map, take}
use Rattle.brl_lines.specs.Views.{line_view}
use Rattle.brl_cut.specs.LetsignViews.{alone_view, known_view}
use Rattle.brl_cut.specs.Letsigns.{all_alone}
use Rattle.brl_cut.proofs.letsign.all_alone.Given as goal

abbrev pub invariant-loop-line : goal.invariant-loop-line
invariant-loop-line l = map alone_view l.alone.items ≡ all_alone (known_view l.known) (map line_view (take l.line-index l.lines))
