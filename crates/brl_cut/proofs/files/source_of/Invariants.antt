use Rattle.std.proofs.Common.{[], None, map, take}
use Rattle.brl_cut.specs.Files.{HoldsFiles, file_view}
use Rattle.brl_cut.proofs.files.source_of.Given as goal

abbrev pub invariant-loop-file : goal.invariant-loop-file
invariant-loop-file l = HoldsFiles [] (map file_view (take l.file-index l.files)) (record { files = l.map; folders = None })
