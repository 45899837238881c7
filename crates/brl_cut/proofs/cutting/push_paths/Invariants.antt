use Rattle.std.proofs.Common.{◌≡◌, ◌++◌, map, string_bytes, take}
use Rattle.brl_cut.specs.Files.{file_view}
use Rattle.brl_cut.proofs.cutting.push_paths.Given as goal

abbrev pub invariant-loop-file : goal.invariant-loop-file
invariant-loop-file l = map string_bytes l.paths.items ≡ map string_bytes l.fn.paths.items ++ map (λ file. file.0) (map file_view (take l.file-index l.files))
