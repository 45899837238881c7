use Rattle.std.proofs.Common.{◌≡◌, ◌∷◌, map, string_bytes, take}
use Rattle.brl_lines.specs.Includes.{path_in}
use Rattle.brl_lines.proofs.finding.paths_to_try.Given as goal

abbrev pub invariant-loop-folder : goal.invariant-loop-folder
invariant-loop-folder l = map string_bytes l.paths.items ≡ l.usual ∷ map (λ folder. path_in folder l.name) (map string_bytes (take l.folder-index l.folders))
