use Rattle.std.proofs.Common.{◌≡◌, ◌++◌, drop, length, map, string_bytes}
use Rattle.brl_cut.specs.Cuts.{written_files}
use Rattle.brl_cut.specs.Files.{file_view}
use Rattle.brl_cut.proofs.placing.place_files.Given as goal

-- the files that were placed, and then those that are left, are all
abbrev pub invariant-loop-name : goal.invariant-loop-name
invariant-loop-name l =
    map file_view l.placed.items ++ written_files l.dir (map string_bytes (drop (length l.yielded) l.names)) (map file_view (drop (length l.yielded) l.files))
    ≡ written_files l.dir (map string_bytes l.names) (map file_view l.files)
