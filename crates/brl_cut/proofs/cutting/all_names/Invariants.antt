use Rattle.std.proofs.Common.{◌≡◌, ◌++◌, map, string_bytes, take}
use Rattle.brl_cut.specs.Files.{file_view}
use Rattle.brl_cut.specs.Letsigns.{made_name}
use Rattle.brl_cut.proofs.cutting.all_names.Given as goal

abbrev pub invariant-loop-made : goal.invariant-loop-made
invariant-loop-made l = map string_bytes l.all.items ≡ map string_bytes l.names ++ map (λ file. made_name) (map file_view (take l._made-index l.made))
