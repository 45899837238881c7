use Rattle.std.proofs.Common.{◌≡◌, map, string_bytes, take}
use Rattle.std.specs.Prelude.{flat_map}
use Rattle.brl_lines.specs.Files.{answers_of}
use Rattle.brl_lines.specs.GatherFaults.{file_if, held}
use Rattle.brl_lines.specs.Lines.{answer_at}
use Rattle.brl_lines.proofs.gathering.files_at.Given as goal

abbrev pub invariant-loop-path : goal.invariant-loop-path
invariant-loop-path l =
    map (λ file. (string_bytes file.path, file.bytes.items)) l.found.items
    ≡ flat_map (λ path. file_if path (held (answer_at (answers_of l.files.entries) path))) (map string_bytes (take l.path-index l.paths))
