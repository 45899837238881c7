use Rattle.std.proofs.Common.{◌≡◌, map, take, string_bytes}
use Rattle.brl_lines.specs.Views.{line_view}
use Rattle.brl_table.specs.Reading.{files_of}
use Rattle.brl_table.proofs.builder.file_names.Given as goal

abbrev pub invariant-loop-line : goal.invariant-loop-line
invariant-loop-line l = map string_bytes l.files.items ≡ files_of (map line_view (take l.line-index l.lines))
