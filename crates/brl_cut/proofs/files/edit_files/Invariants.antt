use Rattle.std.proofs.Common.{◌≡◌, map, take}
use Rattle.brl_cut.specs.Edits.{edited_files}
use Rattle.brl_cut.specs.Files.{edit_view, file_view}
use Rattle.brl_cut.proofs.files.edit_files.Given as goal

abbrev pub invariant-loop-file : goal.invariant-loop-file
invariant-loop-file l = map file_view l.new.items ≡ edited_files (map edit_view l.edits) (map file_view (take l.file-index l.files))
