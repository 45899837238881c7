use Rattle.std.proofs.Common.{◌≡◌, ◌++◌, flat_map, map, string_bytes, take}
use Rattle.brl_lines.specs.Views.{line_view}
use Rattle.brl_table.specs.Survey.{faulty_line_view}
use Rattle.brl_report.specs.Survey.{file_line}
use Rattle.brl_report.proofs.survey.push_files.Given as goal

abbrev pub invariant-loop-path : goal.invariant-loop-path
invariant-loop-path l =
    string_bytes l.text ≡ string_bytes l.fn.text ++ flat_map (file_line (map faulty_line_view l.found) (map line_view l.lines)) (map (λ path. path.now) (take l.path-index l.paths))
