use Rattle.std.proofs.Common.{◌≡◌, ◌++◌, drop, length, map, string_bytes, zip}
use Rattle.brl_cut.specs.Files.{edit_view, file_view}
use Rattle.brl_cut.specs.Marks.{marked_file}
use Rattle.brl_cut.proofs.cutting.mark_files.Given as goal

-- the files that were marked, and then those that are left, are all
abbrev pub invariant-loop-path : goal.invariant-loop-path
invariant-loop-path l =
    map file_view l.marked.items
    ++ map (marked_file (map edit_view l.marks.items)) (zip (map string_bytes (drop (length l.yielded) l.of.cut.paths.items)) (map file_view (drop (length l.yielded) l.of.cut.files.items)))
    ≡ map (marked_file (map edit_view l.marks.items)) (zip (map string_bytes l.of.cut.paths.items) (map file_view l.of.cut.files.items))
