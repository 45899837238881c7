use Rattle.std.proofs.Common.{◌≡◌, map, take}
use Rattle.brl_lines.specs.Views.{line_view}
use Rattle.brl_cut.specs.Files.{edit_view}
use Rattle.brl_cut.specs.LetsignViews.{known_view}
use Rattle.brl_cut.specs.Letsigns.{sign_edits}
use Rattle.brl_cut.proofs.letsign.sign_edits.Given as goal

abbrev pub invariant-loop-line : goal.invariant-loop-line
invariant-loop-line l = map edit_view l.edits.items ≡ sign_edits (known_view l.known) (map line_view (take l.line-index l.lines))
