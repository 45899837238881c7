use Rattle.std.proofs.Common.{map, take}
use Rattle.brl_cut.specs.Edits.{prefix_in}
use Rattle.brl_cut.specs.Files.{HasPrefixes, edit_view}
use Rattle.brl_cut.proofs.files.prefixes_of.Given as goal

abbrev pub invariant-loop-edit : goal.invariant-loop-edit
invariant-loop-edit l = HasPrefixes l.prefixes (prefix_in (map edit_view (take l.edit-index l.edits)) l.path)
