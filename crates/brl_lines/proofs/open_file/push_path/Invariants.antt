use Rattle.std.proofs.Common.{◌≡◌, ◌∷◌, map, take}
use Rattle.std.specs.Prelude.{string_bytes}
use Rattle.brl_lines.proofs.open_file.push_path.Given as goal

abbrev pub invariant-loop-other : goal.invariant-loop-other
invariant-loop-other l = map string_bytes l.paths.items ≡ l.path ∷ map string_bytes (take l.other-index l.others)
