use Rattle.std.proofs.Common.{◌≡◌, map, take}
use Rattle.brl_cut.specs.Files.{edit_view}
use Rattle.brl_cut.proofs.files.edits_of.Given as goal

abbrev pub invariant-loop-line : goal.invariant-loop-line
invariant-loop-line g l = map edit_view l.edits.items ≡ map g.L.BecomesComment.edit_of (take l.line-index l.lines)
