use Rattle.std.proofs.Common.{◌≡◌, flat_map, map, take}
use Rattle.brl_lines.specs.Views.{line_view}
use Rattle.brl_cut.specs.Files.{edit_view}
use Rattle.brl_cut.specs.Rewriting.{noback_edit}
use Rattle.brl_cut.proofs.noback.noback_of_lines.Given as goal

abbrev pub invariant-loop-line : goal.invariant-loop-line
invariant-loop-line l = map edit_view l.edits.items ≡ flat_map noback_edit (map line_view (take l.line-index l.lines))
