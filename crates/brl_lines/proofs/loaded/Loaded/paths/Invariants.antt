use Rattle.std.proofs.Common.{◌≡◌, map, string_bytes, take}
use Rattle.brl_lines.proofs.loaded.Loaded.paths.Given as goal

abbrev pub invariant-loop-index : goal.invariant-loop-index
invariant-loop-index l = map (λ path. path.now) l.paths.items ≡ map (λ file. string_bytes file.0) (take l.index l.self-inside.files.entries)
