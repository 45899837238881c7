use Rattle.std.proofs.Common.{◌≡◌, ◌++◌, flat_map, map, string_bytes, take}
use Rattle.brl_table.specs.Survey.{faulty_line_view}
use Rattle.brl_report.specs.Survey.{cut_file_line}
use Rattle.brl_report.proofs.cut_report.push_files.Given as goal

abbrev pub invariant-loop-path : goal.invariant-loop-path
invariant-loop-path l =
    string_bytes l.text ≡ string_bytes l.fn.text ++ flat_map (cut_file_line (map faulty_line_view l.left_out) (map string_bytes l.files)) (map string_bytes (take l.path-index l.paths))
