use Rattle.std.proofs.Common.{◌≡◌, flat_map, map, take}
use Rattle.brl_lines.specs.Views.{line_view}
use Rattle.brl_cut.specs.Contractions.{contraction_edit}
use Rattle.brl_cut.specs.Files.{edit_view}
use Rattle.brl_cut.proofs.contraction.contraction_edits.Given as goal

abbrev pub invariant-loop-line : goal.invariant-loop-line
invariant-loop-line l = map edit_view l.edits.items ≡ flat_map (contraction_edit l.given.characters.entries l.given.signs.items) (map line_view (take l.line-index l.lines))
