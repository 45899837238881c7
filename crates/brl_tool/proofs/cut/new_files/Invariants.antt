use Rattle.std.proofs.Common.{◌≡◌, map, take}
use Rattle.brl_cut.specs.Files.{file_view}
use Rattle.brl_tool.specs.Cutting.{new_file_view}
use Rattle.brl_tool.proofs.cut.new_files.Given as goal

abbrev pub invariant-loop-file : goal.invariant-loop-file
invariant-loop-file l = map new_file_view l.new.items ≡ map file_view (take l.file-index l.files)
